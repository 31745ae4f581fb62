-- Reading on from one block to the next leaves what is held and what was written as they are, and the count of blocks fits where the reading then stands.
--     found-counted    the ratios of a deck that opens no block then
--     Moved        what holds where a block is opened or the deck ended
--     moved        and that it does
use Rattle.std.specs.Prelude.{ℕ, ◌+◌, ◌≤◌, ◌≡◌, refl, List, [], ◌∷◌, length, drop}
use Rattle.std.proofs.Common.{sym, ap, ◌∙◌, subst, arith}
use Rattle.meaning.specs.Lines.{lines_of}
use Rattle.meaning.specs.Fields.{Form}
use Rattle.meaning.specs.Blocks.{Time, or_whole, Block}
use Rattle.meaning.specs.Results.{Result}
use Rattle.meaning.specs.Run as run
use Rattle.meaning.specs.Run.{Event, Run}
use Rattle.meaning.specs.Records.{most_ordinates}
use Rattle.events.specs.NextEvent.{Found, Met, next_event}
use Rattle.limits.specs.Within.{within_under, ReadingWithin, EventWithin, FoundWithin, found_within}
use Rattle.events.specs.TimeControl.{Under, FoundUnder, found_under, Outside, FoundOutside, found_outside}
use Rattle.fields.specs.Spans.{form_of}
use Rattle.placing.specs.declared.Phase.{Phase}
use Rattle.placing.specs.declared.Phase.TheVariants as phase
use Rattle.placing.specs.declared.Reading.{Reading}
use Rattle.blocks.specs.Meant.{ratios_is, time_is}
use Rattle.placing.specs.Readings.{reading_is, reading_by, Ready, block_is}
use Rattle.stack.specs.declared.Stack.{Stack}
use Rattle.stack.specs.View.{view}
use Rattle.closing.specs.BetweenBlocks.{Carried, carried_none, HeldAfter}
use Rattle.turns.specs.declared.State.{State}
use Rattle.passes.specs.Apart.{ratio_count, count_found, count-found}
use Rattle.passes.specs.One.{time_at}
use Rattle.walking.specs.OneRun.{alone, standing}
use Rattle.walking.specs.Going.{CountBy, RatiosBy, listed_in, run_of, stands_at, Going, reading_under, MayClose}

-- before the first result the time control does not matter
carried_moved : (named place : ℕ) (τ τ' : Time) (n m : ℕ) (rs : List Result) (ordinates records : List ℕ) → length rs ≡ 0
    → Carried named place τ n m rs ordinates records → Carried named place τ' n m rs ordinates records
carried_moved named place τ τ' n m [] ordinates records e c =
    record {
      names = tt;
      n-long = c.n-long;
      m-long = c.m-long;
      flow = c.flow ∙ sym (carried_none named place τ n m).flow ∙ (carried_none named place τ' n m).flow;
      told = c.told;
    }
carried_moved named place τ τ' n m (r ∷ rs) ordinates records e c = absurd (omega arith)

none-held : (nq nq' : ℕ) (s : Stack) (w : List ℕ) → s.depth ≡ 0 → view s nq' w ≡ view s nq w
none-held nq nq' s w e = rw e

held_moved : (k nq nq' : ℕ) (s : Stack) (w : List ℕ) → s.depth ≡ 0 → nq' ≤ most_ordinates → HeldAfter k s nq w → HeldAfter k s nq' w
held_moved k nq nq' s w e few h =
    record {
      fits = record { deep = h.fits.deep; ordinates = few; enough = h.fits.enough };
      flows = rw (none-held nq nq' s w e) h.flows;
      areas = rw (none-held nq nq' s w e) h.areas;
    }

-- THE RATIOS. Where the deck ends, or is refused, before any block is opened, it has one; in a block those that were listed before it.
counted_by : (p : Phase) (lines : List (List ℕ)) (r : run.Reading) (listed : List ℕ) (ratios line : ℕ) → RatiosBy p lines r listed ratios → count_found (next_event lines r line) ≡ 1
    → length (or_whole listed) ≡ ratios
counted_by phase.BeforeTime lines r listed ratios line h e = rw h.1 (sym (count-found lines r line ∙ e) ∙ h.0)
counted_by phase.BeforeBlocks lines r listed ratios line h e = rw h.1 (sym (count-found lines r line ∙ e) ∙ h.0)
counted_by phase.InBlock lines r listed ratios line h e = h

module _ (deck : List ℕ) (named place n m : ℕ) (s : State) (work ordinates records cards : List ℕ) (g : Going deck named place n m s work ordinates records cards) where
  pub found-counted : (f : Found) → next_event (lines_of (drop s.at deck)) (reading_is s.reading cards) (s.line + 1) ≡ f → count_found f ≡ 1
      → length (or_whole (listed_in s)) ≡ ratio_count deck
  found-counted f e one =
      counted_by s.reading.phase (lines_of (drop s.at deck)) (reading_is s.reading cards) (listed_in s) (ratio_count deck) (s.line + 1) g.ratios (ap count_found e ∙ one)

-- where the reading then stands: r, in place of the one that it went on from
pub record Moved (named place n m : ℕ) (s : State) (r : Reading) (rs : List Result) (work ordinates records : List ℕ) : Type 0 where
  pub held : HeldAfter (length rs) s.held r.time.ordinates work
  pub count : CountBy r.phase s.blocks (length rs) s.held.depth
  pub carried : Carried named place (time_at place (time_is r.time)) n m rs ordinates records
  pub listed : s.reading.phase ≡ phase.InBlock → ratios_is r.time.ratios ≡ listed_in s
  pub stays : r.phase ≡ phase.InBlock → s.reading.phase ≡ phase.InBlock
  pub same : standing r.phase s.blocks (run_of place r s.held rs work) ≡ stands_at place s rs work

under_phase : (p : Phase) (τ τ' : Time) (form : Form) (b : Block) → Under τ (reading_by p τ' form b) → (p ≡ phase.InBlock) × (τ' ≡ τ)
under_phase phase.BeforeTime τ τ' form b h = absurd h
under_phase phase.BeforeBlocks τ τ' form b h = absurd h
under_phase phase.InBlock τ τ' form b h = (refl, h)

count_outside : (p : Phase) (τ : Time) (form : Form) (b : Block) (blocks results depth : ℕ) → Outside (reading_by p τ form b)
    → (blocks ≡ 0) × (results ≡ 0) × (depth ≡ 0) → CountBy p blocks results depth
count_outside phase.BeforeTime τ form b blocks results depth o h = h
count_outside phase.BeforeBlocks τ form b blocks results depth o h = h
count_outside phase.InBlock τ form b blocks results depth o h = absurd o

-- outside blocks there is no run, and nothing is held
same_outside : (p p' : Phase) (τ τ' : Time) (form form' : Form) (b b' : Block) (blocks : ℕ) (was was' : Run) → Outside (reading_by p τ form b) → Outside (reading_by p' τ' form' b')
    → length was.held ≡ length was'.held → standing p blocks was ≡ standing p' blocks was'
same_outside phase.BeforeTime phase.BeforeTime τ τ' form form' b b' blocks was was' o o' e = rw e
same_outside phase.BeforeTime phase.BeforeBlocks τ τ' form form' b b' blocks was was' o o' e = rw e
same_outside phase.BeforeBlocks phase.BeforeTime τ τ' form form' b b' blocks was was' o o' e = rw e
same_outside phase.BeforeBlocks phase.BeforeBlocks τ τ' form form' b b' blocks was was' o o' e = rw e
same_outside phase.InBlock p' τ τ' form form' b b' blocks was was' o o' e = absurd o
same_outside phase.BeforeTime phase.InBlock τ τ' form form' b b' blocks was was' o o' e = absurd o'
same_outside phase.BeforeBlocks phase.InBlock τ τ' form form' b b' blocks was was' o o' e = absurd o'

not_outside : (p : Phase) (τ : Time) (form : Form) (b : Block) → Outside (reading_by p τ form b) → p ≡ phase.InBlock → ⊥
not_outside phase.BeforeTime τ form b o e = let z : ◌≡◌ {A = ℕ} 0 1 = cc in omega arith
not_outside phase.BeforeBlocks τ form b o e = let z : ◌≡◌ {A = ℕ} 0 1 = cc in omega arith
not_outside phase.InBlock τ form b o e = o

-- the limits hold under each ratio
within_at : (k : ℕ) (p : Phase) (τ : Time) (form : Form) (b : Block) → ReadingWithin (reading_by p τ form b) → ReadingWithin (reading_by p (time_at k τ) form b)
within_at k phase.BeforeTime τ form b w = tt
within_at k phase.BeforeBlocks τ form b w = within_under τ k w
within_at k phase.InBlock τ form b w = (within_under τ k w.0, w.1)

module _ (deck : List ℕ) (named place n m : ℕ) (s : State) (work ordinates records cards : List ℕ) (g : Going deck named place n m s work ordinates records cards)
    (e : Event) (r : Reading) (line : ℕ) (rest : List (List ℕ)) (cards' : List ℕ)
    (found : next_event (lines_of (drop s.at deck)) (reading_is s.reading cards) (s.line + 1) ≡ Met e (reading_is r cards') line rest)
    (ready : Ready r cards') where
  abbrev lines : List (List ℕ)
  lines = lines_of (drop s.at deck)

  pub limits : EventWithin e × ReadingWithin (reading_is r cards')
  limits = subst FoundWithin found (found_within lines (reading_is s.reading cards) (s.line + 1) g.within)

  -- outside blocks nothing is held yet
  out : (p : Phase) → s.reading.phase ≡ p → Outside (reading_by p (time_is s.reading.time) (form_of s.reading.free) (block_is s.reading cards))
      → (s.blocks ≡ 0) × (length g.results ≡ 0) × (s.held.depth ≡ 0) → Moved named place n m s r g.results work ordinates records
  out p at o zero-all =
      let start : Outside (reading_is s.reading cards) = rw at o in
      let end = subst FoundOutside found (found_outside lines (reading_is s.reading cards) (s.line + 1) start) in
      record {
        held = held_moved (length g.results) s.reading.time.ordinates r.time.ordinates s.held work zero-all.2 ready.few_ordinates g.held;
        count = count_outside r.phase (time_is r.time) (form_of r.free) (block_is r cards') s.blocks (length g.results) s.held.depth end.1 zero-all;
        carried = carried_moved named place (time_at place (time_is s.reading.time)) (time_at place (time_is r.time)) n m g.results ordinates records zero-all.1 g.carried;
        listed = λ (h : s.reading.phase ≡ phase.InBlock). absurd (not_outside s.reading.phase (time_is s.reading.time) (form_of s.reading.free) (block_is s.reading cards) start h);
        stays = λ (h : r.phase ≡ phase.InBlock). absurd (not_outside r.phase (time_is r.time) (form_of r.free) (block_is r cards') end.1 h);
        same =
            same_outside r.phase s.reading.phase (time_is r.time) (time_is s.reading.time) (form_of r.free) (form_of s.reading.free) (block_is r cards')
            (block_is s.reading cards) s.blocks (run_of place r s.held g.results work) (run_of place s.reading s.held g.results work) end.1 start
            (ap length (none-held s.reading.time.ordinates r.time.ordinates s.held work zero-all.2));
      }

  by_phase : (p : Phase) → s.reading.phase ≡ p → CountBy p s.blocks (length g.results) s.held.depth → Moved named place n m s r g.results work ordinates records
  by_phase phase.BeforeTime at h = out phase.BeforeTime at tt h
  by_phase phase.BeforeBlocks at h = out phase.BeforeBlocks at tt h
  by_phase phase.InBlock at h =
      let start : Under (time_is s.reading.time) (reading_is s.reading cards) = rw at refl in
      let end = subst (FoundUnder (time_is s.reading.time)) found (found_under (time_is s.reading.time) lines (reading_is s.reading cards) (s.line + 1) start) in
      let there = under_phase r.phase (time_is s.reading.time) (time_is r.time) (form_of r.free) (block_is r cards') end.1 in
      let nq : r.time.ordinates ≡ s.reading.time.ordinates = ap (λ (τ : Time). τ.ordinates) there.1 in
      let run_is : run_of place r s.held g.results work ≡ run_of place s.reading s.held g.results work =
      ap (λ (τ : Time). alone (time_at place τ) (view s.held τ.ordinates work) g.results) there.1 in
      record {
        held = rw nq g.held;
        count = rw there.0 h;
        carried = subst (λ (τ : Time). Carried named place (time_at place τ) n m g.results ordinates records) (sym there.1) g.carried;
        listed = λ h. ap (λ (τ : Time). τ.listed) there.1;
        stays = λ h. at;
        same =
            ap (λ (p : Phase). standing p s.blocks (run_of place r s.held g.results work)) (there.0 ∙ sym at)
            ∙ ap (standing s.reading.phase s.blocks) run_is;
      }

  pub moved : Moved named place n m s r g.results work ordinates records
  moved = by_phase s.reading.phase refl g.count

  pub may_close : MayClose (reading_under place r) s.held s.blocks place work cards'
  may_close =
      record {
        ready = record { few_ordinates = ready.few_ordinates; few-ratios = ready.few-ratios; short-name = ready.short-name; readable = ready.readable; counted = ready.counted };
        within = within_at place r.phase (time_is r.time) (form_of r.free) (block_is r cards') limits.1;
        before = length g.results;
        held = moved.held;
        count = moved.count;
        few-ratios = g.few-ratios;
      }
