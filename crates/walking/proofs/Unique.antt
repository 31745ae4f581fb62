-- Two outcomes that meet the contract of the walk, as its `ensures` line has it, say the same of the deck, and, where there is room for the results, have left the same
-- ordinates and records. The work words and the open block's are scratch.
use Prim.Native.Nat.{ℕ, ◌+◌, ◌-◌, ◌*◌, ◌≤◌}
use mathlib.Core.Path.{◌≡◌, sym, ap, ◌∙◌}
use Rattle.std.specs.Prelude as std
use Rattle.std.specs.Prelude.{Ok, Err}
use mathlib.Core.List.{List, [], ◌++◌}
use lib.ListN.{length, get_or, replicate}
use Rattle.sequences.specs.OneOutcome.{Once, OnceAt}
use Rattle.meaning.specs.Blocks.{or_whole}
use Rattle.meaning.specs.Results.{Result, record_size}
use Rattle.meaning.specs.Run as run
use Rattle.meaning.specs.Run.{Stopped, Done, Only, worked_under, named_flow}
use Rattle.results.specs.Records.{records_in}
use Rattle.blocks.specs.Meant.{ratios_is}
use Rattle.refusals.specs.declared.Refused.{Refused}
use Rattle.turns.specs.declared.Worked.{Worked}
use Rattle.walking.specs.declared.Walked.{Walked}
use Rattle.walking.specs.Said.{said_by, said, said_of}
use Rattle.walking.specs.Going.{DoneIs, WorkedIs, WalkedIs}
use Rattle.walking.proofs.walk_deck.Kinds as walk-deck
use Rattle.walking.proofs.walk_deck.Reads as walk-deck-says

results_of : run.Worked → List Result
results_of (Stopped number line) = []
results_of (Done τ rss) = get_or rss 0 []

said-by : (w : std.Result Worked Refused) (deck : List ℕ) (named place n m : ℕ) (listed : List ℕ) (ordinates records : List ℕ)
    → WorkedIs deck named place n m listed w ordinates records → said_by w listed ≡ said_of (worked_under (Only place) deck)
said-by (Err r) deck named place n m listed ordinates records e = rw e
said-by (Ok w) deck named place n m listed ordinates records d = rw (d.done, d.ordinates-are, d.blocks-are, d.listed-are)

said_is : (deck : List ℕ) (named place n m : ℕ) (w : Walked) (ordinates records : List ℕ) → WalkedIs deck named place n m w ordinates records → said w ≡ said_of (worked_under (Only place) deck)
said_is deck named place n m w ordinates records p = said-by w.worked deck named place n m (ratios_is w.ratios) ordinates records p.worked

-- how many ratios there are it says of a refused deck too
pub said-once : Once walk-deck.ps walk-deck.r walk-deck-says.Post (λ κs x y e f. (said x ≡ said y) × (length (or_whole (ratios_is x.ratios)) ≡ length (or_whole (ratios_is y.ratios))))
said-once κs a x y e f p q = (said_is _ _ _ _ _ x _ _ p ∙ sym (said_is _ _ _ _ _ y _ _ q), p.ratios ∙ sym q.ratios)

module _ (deck : List ℕ) (named place n m : ℕ) (listed : List ℕ) (nq blocks : ℕ) (known : named ≤ blocks) (flows : nq ≤ n) (lines : record_size * blocks ≤ m) where
  module _ (ordinates records : List ℕ) (d : DoneIs deck named place n m listed nq blocks ordinates records) where
    abbrev results : List Result
    results = results_of (worked_under (Only place) deck)

    results_are : d.results ≡ results
    unfolding results_of
    results_are = rw d.done

    -- the ratio is the one at its place of those listed
    records_are : records ≡ records_in (get_or listed place 100) (place + 1) m results
    records_are =
        d.told (rw d.blocks-are lines) ∙ ap (λ (ratios : List ℕ). records_in (get_or ratios place 100) (place + 1) m d.results) d.listed-are
        ∙ ap (records_in (get_or listed place 100) (place + 1) m) results_are

    flow_is : ordinates ≡ named_flow named results ++ replicate (n - nq) 0
    flow_is = d.flow (rw d.blocks-are known) flows ∙ ap (λ (rs : List Result). named_flow named rs ++ replicate (n - nq) 0) results_are

-- what was lent for results holds the same where the deck is accepted and has room
pub results-once : OnceAt walk-deck.ps walk-deck.r walk-deck-says.Post
    (λ κs a x y e f. (w v : Worked) → x.worked ≡ Ok w → y.worked ≡ Ok v → a.1.0 ≤ w.blocks → w.nq ≤ length a.1.1.1.1.0.now
    → record_size * w.blocks ≤ length a.1.1.1.1.1.0.now
    → (e.1.1.1.1.0.now ≡ f.1.1.1.1.0.now) × (e.1.1.1.1.1.0.now ≡ f.1.1.1.1.1.0.now))
results-once κs a x y e f p q w v s t known flows room =
    let d = rw s at p.worked in
    let g = rw t at q.worked in
    let same = rw (s, t) at (said-once κs a x y e f p q).0 in
    let nq : v.nq ≡ w.nq = cc in
    let blocks : v.blocks ≡ w.blocks = cc in
    let listed : ratios_is y.ratios ≡ ratios_is x.ratios = cc in
    let g' = rw (nq, blocks, listed) at g in (
      flow_is _ _ _ _ _ _ _ _ known flows room _ _ d ∙ sym (flow_is _ _ _ _ _ _ _ _ known flows room _ _ g'),
      records_are _ _ _ _ _ _ _ _ known flows room _ _ d ∙ sym (records_are _ _ _ _ _ _ _ _ known flows room _ _ g'),
    )
