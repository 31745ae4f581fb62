-- Rain as listed, and a storm's total over it.
--     rain_up, rain-sum     how large the rain of an interval is, and all of it together
--     rain-listed           behind the last value listed there are zeros
--     rain_from              what falls from an interval on; rain-whole: from the first; rain-next: one interval later; rain_past: behind the last value listed
--     dry_listed            no value listed for an interval is above 0 when nothing falls, and only then
--     Cuttable              what the cut of a running sum asks, so that no product passes a word
--     total_over             a total over its pattern; dry-total: where the pattern adds up to nothing, that is the pattern
use Rattle.std.specs.Prelude.{ℕ, zero, suc, ◌+◌, ◌-◌, ◌*◌, ◌≤◌, ◌<◌, ◌^◌, min, ◌≡◌, refl, List, [], ◌∷◌, ◌++◌, length, get_or, replicate, take, ◌&&◌, Bool}
use Rattle.std.specs.List.{list_all}
use Rattle.meaning.specs.Words.{◌=?◌}
use Rattle.std.proofs.Common.{sym, ap, ◌∙◌, mul-le-mul, zero-add, suc-add, ne_eqb, eq-eqb, add-zero}
use native.Mathlib.Omega.{arith}
use Rattle.std.proofs.Math.ListN.{get_or-eq_default}
use Rattle.sequences.specs.Bounds.{AllUpTo}
use Rattle.sequences.specs.ListBounds.{bound_list_from}
use Rattle.sequences.specs.Sums.{length-list_from, sum_up, sum-dry}
use Rattle.sequences.specs.Cuts.{cut-dry}
use Rattle.meaning.specs.Water.{ten_thousandth, list_from, sum_of, rain_of, cut_of}
use Rattle.meaning.specs.Records.{most_ordinates}
use Rattle.units.specs.declared.Depth.{Depth}

abbrev pub depth_of : List ℕ → ℕ → ℕ
depth_of rains i = get_or rains i 0 * ten_thousandth

module _ (rains : List ℕ) where
  pub length-rain : (intervals : ℕ) → length (rain_of rains intervals) ≡ intervals
  unfolding rain_of
  length-rain intervals = length-list_from (depth_of rains) 0 intervals

  pub rain_up : AllUpTo 200_000 rains → (intervals : ℕ) → AllUpTo 12_000_000 (rain_of rains intervals)
  unfolding rain_of
  rain_up up intervals = bound_list_from 12_000_000 (depth_of rains) 0 intervals (λ (j : ℕ). omega (arith, up j))

  pub rain-sum : AllUpTo 200_000 rains → (intervals : ℕ) → intervals ≤ most_ordinates → sum_of (rain_of rains intervals) ≤ 3_600_000_000
  rain-sum up intervals few = omega (arith, sum_up 12_000_000 (rain_of rains intervals) (rain_up up intervals), length-rain intervals)

-- values of a function that is 0 from a place on
none_from : (f : ℕ → ℕ) (i n : ℕ) → ((j : ℕ) → i ≤ j → j < i + n → f j ≡ 0) → list_from f i n ≡ replicate n 0
none_from f i zero none = refl
none_from f i (suc n) none = rw (none i (omega arith) (omega arith), none_from f (i + 1) n (λ (j : ℕ) from below. none j (omega arith) (omega arith)))

listed_from : (f : ℕ → ℕ) (i m n : ℕ) → ((j : ℕ) → i + m ≤ j → j < i + (m + n) → f j ≡ 0) → list_from f i (m + n) ≡ list_from f i m ++ replicate n 0
listed_from f i zero n none = rw (zero-add n) (none_from f i n (λ (j : ℕ) from below. none j (omega arith) (omega arith)))
listed_from f i (suc m) n none =
    rw (suc-add m n) (ap (λ (l : List ℕ). f i ∷ l) (listed_from f (i + 1) m n (λ (j : ℕ) from below. none j (omega arith) (omega arith))))

pub rain-listed : (rains : List ℕ) (listed intervals : ℕ) → listed ≡ min (length rains) intervals
    → rain_of rains intervals ≡ rain_of rains listed ++ replicate (intervals - listed) 0
unfolding rain_of
rain-listed rains listed intervals least =
    let all : intervals ≡ listed + (intervals - listed) = omega arith in
    ap (list_from (depth_of rains) 0) all
    ∙ listed_from (depth_of rains) 0 listed (intervals - listed)
    (λ (j : ℕ) from below. (let past : length rains ≤ j = omega arith in ap (λ (v : ℕ). v * ten_thousandth) (get_or-eq_default rains 0 past)))

abbrev pub rain_from : (rains : List ℕ) (intervals i : ℕ) → ℕ
rain_from rains intervals i = sum_of (list_from (depth_of rains) i (intervals - i))

module _ (rains : List ℕ) (intervals : ℕ) where
  pub rain-whole : rain_from rains intervals 0 ≡ sum_of (rain_of rains intervals)
  unfolding rain_of
  rain-whole = let all : intervals - 0 ≡ intervals = omega arith in rw all

  pub rain-next : (i : ℕ) → i < intervals → rain_from rains intervals i ≡ depth_of rains i + rain_from rains intervals (i + 1)
  rain-next i more = let one : intervals - i ≡ suc (intervals - (i + 1)) = omega arith in rw one

  pub rain_past : (i : ℕ) → min (length rains) intervals ≤ i → rain_from rains intervals i ≡ 0
  rain_past i past =
      ap sum_of
      (none_from (depth_of rains) i (intervals - i)
      (λ (j : ℕ) from below. (let far : length rains ≤ j = omega arith in ap (λ (v : ℕ). v * ten_thousandth) (get_or-eq_default rains 0 far))))
      ∙ sum-dry [] (intervals - i)

-- a sum is nothing when each of its two parts is
none_of_both : (x s : ℕ) → (x =? 0) && (s =? 0) ≡ (x * ten_thousandth + s =? 0)
none_of_both zero s = rw zero-add
none_of_both (suc x) s = rw (ne_eqb (suc x) 0 (λ none. omega arith), ne_eqb (suc x * ten_thousandth + s) 0 (λ none. omega arith))

dry_from : (f : ℕ → ℕ) (xs : List ℕ) (i n : ℕ) → ((k : ℕ) → f (i + k) ≡ get_or xs k 0 * ten_thousandth)
    → list_all (λ (depth : ℕ). depth =? 0) (take n xs) ≡ (sum_of (list_from f i n) =? 0)
dry_from f xs i zero each = refl
dry_from f [] i (suc n) each =
    let none : list_from f i (suc n) ≡ replicate (suc n) 0
    = none_from f i (suc n) (λ (j : ℕ) from below. (let at : i + (j - i) ≡ j = omega arith in rw at at (each (j - i)))) in
    sym (eq-eqb _ 0 (ap sum_of none ∙ sum-dry [] (suc n)))
dry_from f (x ∷ xs) i (suc n) each =
    let first : f i ≡ x * ten_thousandth = rw add-zero at (each 0) in
    ap (λ (b : Bool). (x =? 0) && b) (dry_from f xs (i + 1) n (λ (k : ℕ). let on : i + 1 + k ≡ i + suc k = omega arith in rw on (each (suc k))))
    ∙ rw first (none_of_both x (sum_of (list_from f (i + 1) n)))

pub dry_listed : (rains : List ℕ) (intervals : ℕ)
    → list_all (λ (depth : ℕ). depth =? 0) (take intervals rains) ≡ (sum_of (rain_of rains intervals) =? 0)
unfolding rain_of
dry_listed rains intervals = dry_from (depth_of rains) rains 0 intervals (λ (k : ℕ). rw zero-add)

pub record Cuttable (n d : ℕ) (xs : List ℕ) : Type 0 where
  pub some : 0 < d
  pub share : n ≤ 60_000_000
  pub sum : sum_of xs ≤ 3_600_000_000

-- the share of a running sum is a word
pub share_fits : (n s : ℕ) → n ≤ 60_000_000 → s ≤ 3_600_000_000 → n * s < 2 ^ 64
share_fits n s few low = omega (arith, mul-le-mul few low)

abbrev pub total_over : Depth → List ℕ → List ℕ
total_over total pattern = cut_of total.0 (sum_of pattern) pattern

no_sum : (xs : List ℕ) → sum_of xs ≡ 0 → xs ≡ replicate (length xs) 0
no_sum [] none = refl
no_sum (x ∷ xs) none = let first : x ≡ 0 = omega arith in let rest : sum_of xs ≡ 0 = omega arith in rw first (ap (λ (l : List ℕ). 0 ∷ l) (no_sum xs rest))

pub dry-total : (total : Depth) (pattern : List ℕ) → sum_of pattern ≡ 0 → pattern ≡ total_over total pattern
unfolding cut_of
dry-total total pattern none =
    let zeros = no_sum pattern none in
    zeros ∙ sym (cut-dry total.0 (sum_of pattern) [] (length pattern)) ∙ ap (cut_of total.0 (sum_of pattern)) (sym zeros)
