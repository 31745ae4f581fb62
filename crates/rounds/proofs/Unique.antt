-- Two outcomes that meet a contract of this crate, as its `ensures` line has it, say the same of the deck, and, where there is room for the results, have left the same
-- ordinates and records. The work words are scratch, and so are the ratios of a refused deck.
use Prim.Native.Nat.{ℕ, ◌-◌, ◌≤◌}
use mathlib.Core.Path.{◌≡◌, sym, ap, ◌∙◌}
use Rattle.std.specs.Prelude as std
use Rattle.std.specs.Prelude.{Ok, Err}
use mathlib.Core.List.{List, [], ◌++◌}
use lib.ListN.{length, replicate}
use Rattle.sequences.specs.OneOutcome.{Once, OnceAt}
use Rattle.meaning.specs.Blocks.{Time, or_whole}
use Rattle.meaning.specs.Results.{Result}
use Rattle.meaning.specs.Run as run
use Rattle.meaning.specs.Run.{Stopped, Done, worked, named_flow, named_ratio, all_records, record_bytes}
use Rattle.blocks.specs.Meant.{ratios_is}
use Rattle.refusals.specs.declared.Refused.{Refused}
use Rattle.turns.specs.declared.Worked.{Worked}
use Rattle.walking.specs.declared.Walked.{Walked}
use Rattle.walking.specs.Said.{said_by, said, said_of}
use Rattle.answers.specs.declared.Wanted.{Wanted}
use Rattle.rounds.specs.Every.{EveryDone, EveryBy, EveryIs}
use Rattle.rounds.proofs.walk_every.Kinds as walk-every
use Rattle.rounds.proofs.walk_every.Reads as walk-every-says

said-by : (w : std.Result Worked Refused) (deck : List ℕ) (wanted : Wanted) (n m : ℕ) (listed : List ℕ) (ordinates records : List ℕ) → EveryBy deck wanted n m listed w ordinates records
    → said_by w listed ≡ said_of (worked deck)
said-by (Err r) deck wanted n m listed ordinates records e = rw e
said-by (Ok w) deck wanted n m listed ordinates records d = rw (d.done, d.ordinates-are, d.blocks-are, d.listed-are)

said_is : (deck : List ℕ) (wanted : Wanted) (n m : ℕ) (w : Walked) (ordinates records : List ℕ) → EveryIs deck wanted n m w ordinates records → said w ≡ said_of (worked deck)
said_is deck wanted n m w ordinates records p = said-by w.worked deck wanted n m (ratios_is w.ratios) ordinates records p.every

pub said-once : Once walk-every.ps walk-every.r walk-every-says.Post (λ κs x y e f. said x ≡ said y)
said-once κs a x y e f p q = said_is _ _ _ _ x _ _ p ∙ sym (said_is _ _ _ _ y _ _ q)

results_of : run.Worked → List (List Result)
results_of (Stopped number line) = []
results_of (Done τ rss) = rss

-- a refused deck has none
abbrev time_of : run.Worked → Time
time_of (Stopped number line) = record { minutes = 0; ordinates = 0; ratio = 0; listed = [] }
time_of (Done τ rss) = τ

module _ (deck : List ℕ) (wanted : Wanted) (n m : ℕ) (listed : List ℕ) (nq blocks : ℕ) (known : wanted.block ≤ blocks) (flows : nq ≤ n) (rated : wanted.ratio ≤ length (or_whole listed))
    (room : record_bytes blocks (length (or_whole listed)) ≤ m) where
  abbrev time : Time
  time = time_of (worked deck)

  abbrev results : List (List Result)
  results = results_of (worked deck)

  module _ (ordinates records : List ℕ) (d : EveryDone deck wanted n m listed nq blocks ordinates records) where
    results_are : d.results ≡ results
    unfolding results_of
    results_are = rw d.done

    records_are : records ≡ all_records time 0 results ++ replicate (m - record_bytes blocks (length (or_whole listed))) 0
    unfolding results_of
    records_are =
        let h = d.holds.told (rw d.blocks-are room) in
        let told = rw d.blocks-are at h in
        told ∙ ap (λ (w : run.Worked). all_records (time_of w) 0 (results_of w) ++ replicate (m - record_bytes blocks (length (or_whole listed))) 0) (sym d.done)

    flow_is : ordinates ≡ named_flow wanted.block (named_ratio wanted.ratio results) ++ replicate (n - nq) 0
    flow_is =
        let h = d.holds.flow (rw d.blocks-are known) (rw d.ordinates-are flows) rated in
        let flow = rw d.ordinates-are at h in
        flow ∙ ap (λ (rss : List (List Result)). named_flow wanted.block (named_ratio wanted.ratio rss) ++ replicate (n - nq) 0) results_are

-- what was lent for results holds the same where the deck is accepted and has room
pub results-once : OnceAt walk-every.ps walk-every.r walk-every-says.Post
    (λ κs a x y e f. (w v : Worked) → x.worked ≡ Ok w → y.worked ≡ Ok v → a.1.0.block ≤ w.blocks → w.nq ≤ length a.1.1.1.0.now
    → a.1.0.ratio ≤ length (or_whole (ratios_is x.ratios)) → record_bytes w.blocks (length (or_whole (ratios_is x.ratios))) ≤ length a.1.1.1.1.0.now
    → (e.1.1.1.0.now ≡ f.1.1.1.0.now) × (e.1.1.1.1.0.now ≡ f.1.1.1.1.0.now))
results-once κs a x y e f p q w v s t known flows rated room =
    let d = rw s at p.every in
    let g = rw t at q.every in
    let same = rw (s, t) at (said-once κs a x y e f p q) in
    let nq : v.nq ≡ w.nq = cc in
    let blocks : v.blocks ≡ w.blocks = cc in
    let listed : ratios_is y.ratios ≡ ratios_is x.ratios = cc in
    let g' = rw (nq, blocks, listed) at g in (
      flow_is _ _ _ _ _ _ _ known flows rated room _ _ d ∙ sym (flow_is _ _ _ _ _ _ _ known flows rated room _ _ g'),
      records_are _ _ _ _ _ _ _ known flows rated room _ _ d ∙ sym (records_are _ _ _ _ _ _ _ known flows rated room _ _ g'),
    )
