-- By the phase of the reading: what holds where a block is closed, or none was open, one law for each.
--     results_by, last_by, run_by, begins_by    the results, the last hydrograph and the run then
--     in_block_by, after-time                   which phases there can be
--     ratios_by, counted_in                     how many ratios the deck has
use Rattle.std.specs.Prelude.{ℕ, zero, suc, ◌+◌, ◌-◌, ◌*◌, ◌≤◌, ◌≡◌, refl, List, [], ◌∷◌, ◌++◌, ◌⊎◌, length, replicate}
use Rattle.std.proofs.Common.{sym, ap, ◌∙◌, ⊎_elim, arith, length-append}
use Rattle.sequences.specs.Parts.{part}
use Rattle.meaning.specs.Fields.{Form}
use Rattle.meaning.specs.Blocks.{Time, or_whole, Block, Held}
use Rattle.meaning.specs.Results.{Result}
use Rattle.meaning.specs.Run as run
use Rattle.meaning.specs.Run.{InBlock, Open, Run, held_in, with_result, named_flow, most_blocks}
use Rattle.meaning.specs.Records.{most_ordinates}
use Rattle.events.specs.NextEvent.{Met, next_event}
use Rattle.events.specs.TimeControl.{Timed}
use Rattle.placing.specs.declared.Phase.{Phase}
use Rattle.placing.specs.declared.Phase.TheVariants as phase
use Rattle.placing.specs.declared.Reading.{Reading}
use Rattle.blocks.specs.Meant.{time_is}
use Rattle.placing.specs.Readings.{reading_by, time_in, form_in}
use Rattle.stack.specs.declared.Stack.{Stack}
use Rattle.stack.specs.View.{view, length_held}
use Rattle.telling.specs.LastHeld.{view_last}
use Rattle.writing.specs.WrittenResult.{copied_first}
use Rattle.closing.specs.BetweenBlocks.{Carried, carried_last}
use Rattle.passes.specs.Apart.{count-found, count_found}
use Rattle.passes.specs.One.{time_at}
use Rattle.refusals.specs.Numbers.{refusal_in}
use Rattle.turns.specs.Turns.{Finished}
use Rattle.walking.specs.OneRun.{alone, closed_run}
use Rattle.walking.specs.Going.{CountBy, RatiosBy, run_of, ClosedBy}

-- after IT the reading has the time control that its struct says
pub timed_by : (p : Phase) (τ : Time) (form : Form) (b : Block) → Timed (reading_by p τ form b) → (time_in (reading_by p τ form b) ≡ τ) × (form_in (reading_by p τ form b) ≡ form)
timed_by phase.BeforeTime τ form b h = absurd h
timed_by phase.BeforeBlocks τ form b h = (refl, refl)
timed_by phase.InBlock τ form b h = (refl, refl)

-- there are as many results as blocks then
pub results_by : (p : Phase) (τ : Time) (form : Form) (b : Block) (was : Run) (blocks depth : ℕ)
    → CountBy p blocks (length was.results) depth → length (closed_run (reading_by p τ form b) was).results ≡ blocks
unfolding with_result
results_by phase.BeforeTime τ form b was blocks depth h = omega arith
results_by phase.BeforeBlocks τ form b was blocks depth h = omega arith
results_by phase.InBlock τ form b was blocks depth h = length-append was.results _ ∙ sym h.0

pub few_by : (p : Phase) (blocks results depth : ℕ) → CountBy p blocks results depth → blocks ≤ most_blocks
few_by phase.BeforeTime blocks results depth h = omega arith
few_by phase.BeforeBlocks blocks results depth h = omega arith
few_by phase.InBlock blocks results depth h = h.1

-- AN ACCEPTED END
pub one_up : (named : ℕ) → (named ≡ 0 → ⊥) → 1 ≤ named
one_up zero h = absurd (h refl)
one_up (suc named) h = omega arith

none_closed : (y : Stack) (nq : ℕ) (w : List ℕ) (held : List Held) → view y nq w ≡ held → length held ≡ 0 → 1 ≤ y.depth → ⊥
none_closed y nq w held e none some =
    let long : length (view y nq w) ≡ y.depth = length_held nq y.areas y.depth w in
    let same : length (view y nq w) ≡ length held = ap length e in
    omega arith

pub last_by : (p : Phase) (τ : Time) (form : Form) (b : Block) (was : Run) (blocks depth place n m : ℕ) (y : Stack) (w ordinates records : List ℕ)
    → CountBy p blocks (length was.results) depth → length was.held ≡ depth → view y was.time.ordinates w ≡ (closed_run (reading_by p τ form b) was).held → 1 ≤ y.depth
    → was.time.ordinates ≤ n → Carried 0 place was.time n m (closed_run (reading_by p τ form b) was).results ordinates records
    → copied_first was.time.ordinates (part (most_ordinates * (y.depth - 1)) was.time.ordinates w) ordinates
    ≡ named_flow 0 (closed_run (reading_by p τ form b) was).results ++ replicate (n - was.time.ordinates) 0
unfolding with_result
last_by phase.BeforeTime τ form b was blocks depth place n m y w ordinates records count held e some room c =
    absurd (none_closed y was.time.ordinates w was.held e (held ∙ count.2) some)
last_by phase.BeforeBlocks τ form b was blocks depth place n m y w ordinates records count held e some room c =
    absurd (none_closed y was.time.ordinates w was.held e (held ∙ count.2) some)
last_by phase.InBlock τ form b was blocks depth place n m y w ordinates records count held e some room c =
    rw (view_last y was.time.ordinates w e).flow (carried_last was.time was.results (record { block = b; held = held_in b was }) c room)

-- the run with what is held seen in the work words
pub run_by : (p : Phase) (τ : Time) (form : Form) (b : Block) (was : Run) (held : List Held) → held ≡ (closed_run (reading_by p τ form b) was).held
    → closed_run (reading_by p τ form b) was ≡ alone was.time held (closed_run (reading_by p τ form b) was).results
unfolding with_result
run_by phase.BeforeTime τ form b was held e = rw e
run_by phase.BeforeBlocks τ form b was held e = rw e
run_by phase.InBlock τ form b was held e = rw e

-- before the first block nothing is held yet
pub begins_by : (p : Phase) (place : ℕ) (r : Reading) (h : Stack) (rs : List Result) (blocks : ℕ) (work : List ℕ) → CountBy p blocks (length rs) h.depth → p ≡ phase.BeforeBlocks
    → run_of place r h rs work ≡ alone (time_at place (time_is r.time)) [] []
begins_by p place r h [] blocks work count e = let c = rw e at count in let none : h.depth ≡ 0 = c.2 in rw none
begins_by p place r h (x ∷ rs) blocks work count e = let c = rw e at count in absurd (omega (arith, c.1))

pub in_block_by : (p : Phase) (τ : Time) (form : Form) (b : Block) (was : Run) (blocks depth nq : ℕ) (y : Stack) (w : List ℕ)
    → CountBy p blocks (length was.results) depth → length was.held ≡ depth → view y nq w ≡ (closed_run (reading_by p τ form b) was).held → 1 ≤ y.depth → p ≡ phase.InBlock
in_block_by phase.BeforeTime τ form b was blocks depth nq y w count held e some = absurd (none_closed y nq w was.held e (held ∙ count.2) some)
in_block_by phase.BeforeBlocks τ form b was blocks depth nq y w count held e some = absurd (none_closed y nq w was.held e (held ∙ count.2) some)
in_block_by phase.InBlock τ form b was blocks depth nq y w count held e some = refl

pub after-time : (p : Phase) (τ : Time) (form : Form) (b : Block) → Timed (reading_by p τ form b) → p ≡ phase.BeforeTime → ⊥
after-time phase.BeforeTime τ form b h e = h
after-time phase.BeforeBlocks τ form b h e = let z : ◌≡◌ {A = ℕ} 0 1 = cc in omega arith
after-time phase.InBlock τ form b h e = let z : ◌≡◌ {A = ℕ} 0 1 = cc in omega arith

-- the ratios of a deck whose first block is opened, and those that it had in a block
pub ratios_by : (p p' : Phase) (τ : Time) (form : Form) (b : Block) (lines : List (List ℕ)) (from : run.Reading) (n : ℕ) (next : run.Reading) (line : ℕ) (rest : List (List ℕ))
    (listed : List ℕ) (ratios blocks results depth : ℕ) → next_event lines from n ≡ Met (Open next) (reading_by p' τ form b) line rest → Timed (reading_by p' τ form b)
    → RatiosBy p lines from listed ratios → CountBy p blocks results depth → CountBy p' blocks results depth → (p ≡ phase.InBlock → τ.listed ≡ listed)
    → length (or_whole τ.listed) ≡ ratios
ratios_by p phase.BeforeTime τ form b lines from n next line rest listed ratios blocks results depth found timed h count count' same = absurd timed
ratios_by phase.BeforeTime phase.BeforeBlocks τ form b lines from n next line rest listed ratios blocks results depth found timed h count count' same =
    sym (count-found lines from n ∙ ap count_found found) ∙ h.0
ratios_by phase.BeforeBlocks phase.BeforeBlocks τ form b lines from n next line rest listed ratios blocks results depth found timed h count count' same =
    sym (count-found lines from n ∙ ap count_found found) ∙ h.0
ratios_by phase.InBlock phase.BeforeBlocks τ form b lines from n next line rest listed ratios blocks results depth found timed h count count' same =
    absurd (omega (arith, count.0, count'.0))
ratios_by phase.BeforeTime phase.InBlock τ form b lines from n next line rest listed ratios blocks results depth found timed h count count' same =
    absurd (omega (arith, count.0, count'.0))
ratios_by phase.BeforeBlocks phase.InBlock τ form b lines from n next line rest listed ratios blocks results depth found timed h count count' same =
    absurd (omega (arith, count.0, count'.0))
ratios_by phase.InBlock phase.InBlock τ form b lines from n next line rest listed ratios blocks results depth found timed h count count' same = rw (same refl) h

-- A KK that is refused, or is one too many, stands in a block
module _ (r : Reading) (h : Stack) (blocks named place : ℕ) (x : Finished) (work work' ordinates ordinates' records records' cards : List ℕ) (results depth : ℕ) where
  abbrev Stopping : Type 0
  Stopping = (refusal_in x ≡ 0 → ⊥) ⊎ (most_blocks ≤ blocks)

  none_stops : blocks ≡ 0 → refusal_in x ≡ 0 → Stopping → ⊥
  none_stops none sound stops = ⊎_elim (λ some. some sound) (λ many. omega arith) stops

  outside_stops : (p : Phase) → blocks ≡ 0 → CountBy p blocks results depth → ClosedBy p r h blocks named place x work work' ordinates ordinates' records records' cards → Stopping → ⊥
  outside_stops phase.BeforeTime none count c stops = none_stops none (ap refusal_in c.0) stops
  outside_stops phase.BeforeBlocks none count c stops = none_stops none (ap refusal_in c.0) stops
  outside_stops phase.InBlock none count c stops = omega arith

pub counted_in : (p p' : Phase) (r : Reading) (h : Stack) (blocks named place : ℕ) (x : Finished) (work work' ordinates ordinates' records records' cards : List ℕ) (results depth : ℕ)
    (lines : List (List ℕ)) (from : run.Reading) (listed : List ℕ) (ratios : ℕ) → RatiosBy p lines from listed ratios → CountBy p blocks results depth → CountBy p' blocks results depth
    → ClosedBy p' r h blocks named place x work work' ordinates ordinates' records records' cards → (refusal_in x ≡ 0 → ⊥) ⊎ (most_blocks ≤ blocks) → length (or_whole listed) ≡ ratios
counted_in phase.BeforeTime p' r h blocks named place x work work' ordinates ordinates' records records' cards results depth lines from listed ratios h' count count' c stops =
    absurd (outside_stops r h blocks named place x work work' ordinates ordinates' records records' cards results depth p' count.0 count' c stops)
counted_in phase.BeforeBlocks p' r h blocks named place x work work' ordinates ordinates' records records' cards results depth lines from listed ratios h' count count' c stops =
    absurd (outside_stops r h blocks named place x work work' ordinates ordinates' records records' cards results depth p' count.0 count' c stops)
counted_in phase.InBlock p' r h blocks named place x work work' ordinates ordinates' records records' cards results depth lines from listed ratios h' count count' c stops = h'
