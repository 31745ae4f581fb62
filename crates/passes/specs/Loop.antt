-- The code's loop over ratios: what it keeps between two walks, and what it leaves.
--     WalkIs            what a walk under one ratio that came to its end promises of what it is lent: the bytes of the records from its own on, and ordinates
--     Holds, Stands     where the loop stands after k walks. Once one was refused nothing is kept of what was lent: all of it is zeroed in the end
--     holds_first, holds-refused, holds_still_refused    what is kept after the first walk, and once one was refused; after another: proofs/Loop.antt
--     lent-zeros        what the next walk is lent of the records is zeros still
--     loop_more, loop_found    the loop, and what all the walks found; its beginning: proofs/Loop.antt
--     turn-done, turn-stopped, turn-still-stopped    loop_more by what the walk came to
--     loop_ends         what comes back where it is accepted
use Rattle.std.specs.Prelude.{ℕ, zero, suc, ◌+◌, ◌-◌, ◌*◌, ◌≤◌, ◌<◌, ◌≡◌, refl, Bool, ◌⊎◌, List, [], ◌∷◌, ◌++◌, length, drop, get_or, replicate}
use Rattle.std.proofs.Common.{sym, ap, ◌∙◌, inl, inr, ⊎_elim, append-nil, mul-one, arith, length-append, drop_at, eq-eqb, ne_eqb}
use Rattle.std.proofs.Math.Bool.{true, false}
use Rattle.std.proofs.Math.Seq.{get_or-append_seam}
use Rattle.meaning.specs.Words.{when◌then◌else◌}
use Rattle.meaning.specs.Blocks.{Time, ratio_at}
use Rattle.meaning.specs.Results.{Result, record_size, records_of}
use Rattle.meaning.specs.Run.{Only, Worked, Stopped, Done, worked_under, worked, Lent, Accepted, named_flow, named_ratio, block_count, all_records, record_bytes, accepted}
use Rattle.sequences.specs.Choices.{below_or_not}
use Rattle.passes.specs.Apart.{comes_first, sooner, apart, ratio_count}

-- The records of the ratio at place k.
abbrev pub records_at : ℕ → Time → List Result → List ℕ
records_at k τ rs = records_of (ratio_at k τ) (k + 1) rs

-- A walk that came to its end: its results, their records in m bytes and the named hydrograph in n ordinates.
pub record WalkIs (deck : List ℕ) (k named n m : ℕ) (τ : Time) (rs : List Result) (ordinates records : List ℕ) : Type 0 where
  pub done : worked_under (Only k) deck ≡ Done τ (rs ∷ [])
  pub long : length (records_at k τ rs) ≡ record_size * length rs
  pub told : record_size * length rs ≤ m → records ≡ records_at k τ rs ++ replicate (m - record_size * length rs) 0
  pub flow : named ≤ length rs → τ.ordinates ≤ n → ordinates ≡ named_flow named rs ++ replicate (n - τ.ordinates) 0

-- What is kept after k walks that all came to their end.
pub record Holds (deck : List ℕ) (named ratio n m k : ℕ) (τ : Time) (rss : List (List Result)) (ordinates records : List ℕ) : Type 0 where
  pub some : 0 < k
  pub ratios : length rss ≡ k
  pub first : worked_under (Only 0) deck ≡ Done τ (get_or rss 0 [] ∷ [])
  pub long : length (all_records τ 0 rss) ≡ record_bytes (block_count rss) k
  pub told : record_bytes (block_count rss) k ≤ m → records ≡ all_records τ 0 rss ++ replicate (m - record_bytes (block_count rss) k) 0
  pub flow : named ≤ block_count rss → τ.ordinates ≤ n → ratio ≤ k → ordinates ≡ named_flow named (named_ratio ratio rss) ++ replicate (n - τ.ordinates) 0

abbrev pub HoldsOf : List ℕ → (named ratio n m k : ℕ) → Worked → (ordinates records : List ℕ) → Type 0
HoldsOf deck named ratio n m k (Stopped number line) ordinates records = Unit
HoldsOf deck named ratio n m k (Done τ rss) ordinates records = Holds deck named ratio n m k τ rss ordinates records

pub record Stands (deck : List ℕ) (named ratio n m k : ℕ) (found : Worked) (ordinates records : List ℕ) : Type 0 where
  pub up : k ≤ ratio_count deck
  pub walked : apart deck found k (ratio_count deck - k) ≡ worked deck
  pub holds : HoldsOf deck named ratio n m k found ordinates records

-- The bytes that the walk under the ratio at place k is lent begin here; past the end of the records it is lent none.
abbrev pub records_from : (blocks k : ℕ) → ℕ
records_from blocks k = record_bytes blocks k

-- The ordinates before a walk and after it, and those that it was lent, n' of them, as it left them: all n where its ratio is named or the last is, 0; else others were left alone.
pub record OrdinatesLent (ratio n k n' : ℕ) (before lent after : List ℕ) : Type 0 where
  pub written : (ratio ≡ 0) ⊎ (ratio ≡ k + 1) → (n' ≡ n) × (after ≡ lent)
  pub left : 0 < ratio → ratio ≤ k → after ≡ before

pub at_append : {A : Type 0} (xs : List A) (y d : A) (i : ℕ) → i < length xs → get_or (xs ++ (y ∷ [])) i d ≡ get_or xs i d
at_append [] y d i h = absurd (omega arith)
at_append (x ∷ xs) y d zero h = refl
at_append (x ∷ xs) y d (suc i) h = at_append xs y d i (omega arith)

-- The ratio that is named, 0 the last, or that stands at the place just walked; and one that stands before it.
last_named : (rss : List (List Result)) (rs : List Result) (ratio k : ℕ) → length rss ≡ k → (ratio ≡ 0) ⊎ (ratio ≡ k + 1) → named_ratio ratio (rss ++ (rs ∷ [])) ≡ rs
unfolding named_ratio when◌then◌else◌
last_named rss rs ratio k e (inl z) =
    let n : length (rss ++ (rs ∷ [])) - 1 ≡ length rss = omega (arith, length-append rss (rs ∷ [])) in
    rw (eq-eqb ratio 0 z, n) (get_or-append_seam rss rs [] [])
last_named rss rs ratio k e (inr z) =
    let n : ratio - 1 ≡ length rss = omega arith in
    let p : ratio ≡ 0 → ⊥ = λ y. omega arith in
    rw (ne_eqb ratio 0 p, n) (get_or-append_seam rss rs [] [])

other_named : (rss : List (List Result)) (rs : List Result) (ratio k : ℕ) → length rss ≡ k → 0 < ratio → ratio ≤ k → named_ratio ratio (rss ++ (rs ∷ [])) ≡ named_ratio ratio rss
unfolding named_ratio when◌then◌else◌
other_named rss rs ratio k e p h =
    let q : ratio ≡ 0 → ⊥ = λ y. omega arith in
    let i : ratio - 1 < length rss = omega arith in
    rw (ne_eqb ratio 0 q) (at_append rss rs [] (ratio - 1) i)

-- Is the ratio named that stands at place k, or an earlier one?
this_or_earlier : (ratio k : ℕ) → ratio ≤ k + 1 → ((ratio ≡ 0) ⊎ (ratio ≡ k + 1)) ⊎ ((0 < ratio) × (ratio ≤ k))
this_or_earlier ratio k up =
    ⊎_elim
    (λ (some : 0 < ratio). ⊎_elim (λ (above : k < ratio). inl (inr (omega arith))) (λ (below : ratio ≤ k). inr (some, below)) (below_or_not k ratio))
    (λ (none : ratio ≤ 0). inl (inl (omega arith)))
    (below_or_not 0 ratio)

module _ (deck : List ℕ) (named ratio n m : ℕ) where
  -- THE NAMED HYDROGRAPH after a walk: its own, or what stood there.
  module _ (k n' nq : ℕ) (rss : List (List Result)) (rs : List Result) (before lent after : List ℕ) (long : length rss ≡ k) (room : nq ≤ n) (put : OrdinatesLent ratio n k n' before lent after)
      (this : nq ≤ n' → lent ≡ named_flow named rs ++ replicate (n' - nq) 0)
      (earlier : 0 < ratio → ratio ≤ k → before ≡ named_flow named (named_ratio ratio rss) ++ replicate (n - nq) 0) where
    pub named_put : ratio ≤ k + 1 → after ≡ named_flow named (named_ratio ratio (rss ++ (rs ∷ []))) ++ replicate (n - nq) 0
    named_put up =
        ⊎_elim
        (λ (here : (ratio ≡ 0) ⊎ (ratio ≡ k + 1)).
        let w = put.written here in
        let fits : nq ≤ n' = omega (arith, w.0) in
        rw (last_named rss rs ratio k long here) (w.1 ∙ rw w.0 at (this fits)))
        (λ (there : (0 < ratio) × (ratio ≤ k)).
        rw (other_named rss rs ratio k long there.0 there.1) (put.left there.0 there.1 ∙ earlier there.0 there.1))
        (this_or_earlier ratio k up)

  -- THE FIRST WALK that came to its end. It was lent all the records.
  pub holds_first : (n' : ℕ) (τ : Time) (rs : List Result) (before lent after records : List ℕ) → WalkIs deck 0 named n' m τ rs lent records → OrdinatesLent ratio n 0 n' before lent after
      → Holds deck named ratio n m 1 τ (rs ∷ []) after records
  holds_first n' τ rs before lent after records w put =
      let one : length rs * 1 ≡ length rs = mul-one (length rs) in
      record {
        some = omega arith;
        ratios = refl;
        first = w.done;
        long = rw (one, append-nil (records_at 0 τ rs)) w.long;
        told = rw (one, append-nil (records_at 0 τ rs)) w.told;
        flow = λ (few : named ≤ length rs) (room : τ.ordinates ≤ n) (up : ratio ≤ 1).
            named_put 0 n' τ.ordinates [] rs before lent after refl room put (w.flow few) (λ (some : 0 < ratio) (none : ratio ≤ 0). absurd (omega arith)) up;
      }

  -- ANOTHER WALK that came to its end: it has as many blocks and the same time control, and was lent the records from its own on, where there are such.
  module _ (k : ℕ) (τ : Time) (rss : List (List Result)) (ordinates records : List ℕ) (h : Holds deck named ratio n m k τ rss ordinates records) where
    abbrev b : ℕ
    b = block_count rss

    pub lent-zeros : records_from b k ≤ m → drop (records_from b k) records ≡ replicate (m - records_from b k) 0
    lent-zeros fits = rw (h.told fits) (drop_at (all_records τ 0 rss) (replicate (m - records_from b k) 0) (records_from b k) h.long)

  -- Nothing is asked of what was lent once a walk was refused.
  either_stopped : (t : Bool) (number line number' line' k : ℕ) (ordinates records : List ℕ)
      → HoldsOf deck named ratio n m k (when t then Stopped number line else Stopped number' line') ordinates records
  unfolding when◌then◌else◌
  either_stopped true number line number' line' k ordinates records = tt
  either_stopped false number line number' line' k ordinates records = tt

  pub holds-refused : (found : Worked) (number line k : ℕ) (ordinates records : List ℕ) → HoldsOf deck named ratio n m k (sooner found (Stopped number line)) ordinates records
  holds-refused (Stopped number' line') number line k ordinates records = either_stopped (comes_first number' line' number line) number' line' number line k ordinates records
  holds-refused (Done τ rss) number line k ordinates records = tt

  pub holds_still_refused : (w : Worked) (number line k : ℕ) (ordinates records : List ℕ) → HoldsOf deck named ratio n m k (sooner (Stopped number line) w) ordinates records
  holds_still_refused (Stopped number' line') number line k ordinates records = either_stopped (comes_first number line number' line') number line number' line' k ordinates records
  holds_still_refused (Done τ rss) number line k ordinates records = tt

  module _ (k : ℕ) (more : k < ratio_count deck) (ordinates records ordinates' records' : List ℕ) where
    pub loop_more : (found w : Worked) → worked_under (Only k) deck ≡ w → Stands deck named ratio n m k found ordinates records
        → HoldsOf deck named ratio n m (k + 1) (sooner found w) ordinates' records'
        → Stands deck named ratio n m (k + 1) (sooner found w) ordinates' records'
    loop_more found w e s h =
        let left = ratio_count deck - (k + 1) in
        let one : ratio_count deck - k ≡ suc left = omega arith in
        record {
          up = omega arith;
          walked = sym (ap (λ (v : Worked). apart deck (sooner found v) (k + 1) left) e) ∙ sym (ap (apart deck found k) one) ∙ s.walked;
          holds = h;
        }

  pub loop_found : (k : ℕ) (found : Worked) (ordinates records : List ℕ) → Stands deck named ratio n m k found ordinates records → ratio_count deck ≤ k → worked deck ≡ found
  loop_found k found ordinates records s done =
      let e : ratio_count deck - k ≡ 0 = omega arith in
      sym s.walked ∙ ap (apart deck found k) e

  -- WHAT COMES BACK after the last walk, where none was refused and there is room: what was lent holds it already, and the work words are zeroed.
  pub loop_ends : (lent : Lent) (k : ℕ) (τ : Time) (rss : List (List Result)) (ordinates records : List ℕ) → lent.ordinates ≡ n → lent.records ≡ m
      → Holds deck named ratio n m k τ rss ordinates records
      → named ≤ block_count rss → τ.ordinates ≤ n → ratio ≤ k → record_bytes (block_count rss) k ≤ m
      → accepted named ratio τ rss lent ≡ record { answer = Accepted τ.ordinates (block_count rss) k; work = replicate lent.work 0; ordinates = ordinates; records = records }
  loop_ends lent k τ rss ordinates records ln lm h few nq up bytes =
      let o = h.flow few nq up in
      let r = h.told bytes in
      rw (h.ratios, ln, lm, sym o, sym r)
