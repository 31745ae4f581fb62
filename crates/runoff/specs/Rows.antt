-- The order of the hand sheet: one interval's excess is spread over all the unit ordinates, then the next interval's. That the columns then add up to the runoff of
-- document 01, where each ordinate is summed over the unit ordinates, is `sheet_order`, the one law that ties the two orders.
--     spread_over      an interval's shares, added to what is there
--     Rows            so many intervals are spread: each ordinate has what they bring to it
--     rows_none, rows_dry, rows_more    before the first one, past one without excess, and past one that is spread
--     sheet_order     a column's sum is the ordinate; rows_all: of all ordinates
use Rattle.std.specs.Prelude.{ℕ, ◌+◌, ◌-◌, ◌*◌, ◌≤◌, ◌<◌, ◌^◌, ◌≡◌, List, [], ◌++◌, take, drop, get_or, replicate}
use Rattle.std.proofs.Common.{sym, ap, ◌∙◌, mul-le-mul, zero-mul, mul-zero, length-append, length-drop, ext_get_or, get_or-take, get_or-drop, length-take-le, get_or-append-add}
use Rattle.std.proofs.Math.Logic.{⊎_elim}
use native.Mathlib.Omega.{arith}
use borrow.Author.Tests.{lt-ltb, le-ltb, le-leb, lt-leb}
use Rattle.std.proofs.Math.ListN.{length, get_or-eq_default, get_or-append}
use Rattle.std.proofs.lemmas.List.{length-replicate}
use Rattle.sequences.specs.Bounds.{AllUpTo}
use Rattle.sequences.specs.Choices.{below_or_not}
use Rattle.sequences.specs.Parts.{part, put, put_tail, part_to_end}
use Rattle.sequences.specs.Sums.{sum_to_more, sum_to_past, sum_to_bound, sum_to_same, sum_to_back, length-list_from, get_or_list}
use Rattle.sequences.specs.Zeros.{get_or_alike}
use Rattle.meaning.specs.Words.{when◌then◌else◌}
use Rattle.meaning.specs.Water.{list_from, sum_to, share, ordinate, runoff_of}
use Rattle.meaning.specs.Sheet.{Sheet, brings, column_sum}
use Rattle.excess.specs.Storms.{most_excess}

-- the largest unit ordinate times the largest excess
abbrev pub most_share : ℕ
most_share = 9_999_999 * most_excess

-- an interval's shares, added to what stands from its own ordinate on
abbrev pub spread_over : (units : List ℕ) (excess : ℕ) → List ℕ → List ℕ
spread_over units excess q = list_from (λ (j : ℕ). get_or q j 0 + get_or units j 0 * excess) 0 (length q)

-- what a sheet needs of itself here: its rain and its loss play no part
abbrev pub sheet_for : (units excess : List ℕ) → (intervals : ℕ) → Sheet
sheet_for units excess intervals = record { units = units; rains = []; losses = []; excesses = excess; intervals = intervals }

module _ (s : Sheet) where
  abbrev units : List ℕ
  units = s.units

  abbrev excess : List ℕ
  excess = s.excesses

  -- nothing falls before the interval
  brings_none : (i k : ℕ) → i < k → brings s i k ≡ 0
  unfolding when◌then◌else◌
  brings_none i k h = rw (lt-leb k i h)

  -- and behind the last unit ordinate a share is none
  pub brings-share : (i k : ℕ) → k ≤ i → brings s i k ≡ get_or units (i - k) 0 * get_or excess k 0
  unfolding when◌then◌else◌
  brings-share i k h =
      let back : i - (i - k) ≡ k = omega arith in
      ⊎_elim
      (λ (below : i - k < length units). rw (le-leb k i h, lt-ltb (i - k) (length units) below, back))
      (λ (past : length units ≤ i - k).
      rw (le-leb k i h, le-ltb (i - k) (length units) past, get_or-eq_default units 0 past) (sym (zero-mul (get_or excess k 0))))
      (below_or_not (i - k) (length units))

  brings_up : AllUpTo 9_999_999 units → AllUpTo most_excess excess → (i k : ℕ) → brings s i k ≤ most_share
  brings_up hu he i k =
      ⊎_elim
      (λ (before : i < k). omega (arith, brings_none i k before))
      (λ (from : k ≤ i). rw (brings-share i k from) (mul-le-mul (hu (i - k)) (he k)))
      (below_or_not i k)

  -- THE LAW: the sum of a column is the ordinate, where there is no excess past the intervals of the sheet
  pub sheet_order : ((k : ℕ) → s.intervals ≤ k → get_or excess k 0 ≡ 0) → (i : ℕ) → column_sum s i ≡ ordinate units excess i
  sheet_order dry i =
      let turned : sum_to (brings s i) (i + 1) ≡ ordinate units excess i =
      sum_to_same (brings s i) (λ (k : ℕ). share units excess i (i + 1 - (k + 1))) (i + 1)
      (λ (k : ℕ) below.
      (let place : i + 1 - (k + 1) ≡ i - k = omega arith in
      let back : i - (i - k) ≡ k = omega arith in
      brings-share i k (omega arith) ∙ rw (place, back)))
      ∙ sym (sum_to_back (share units excess i) (i + 1)) in
      ⊎_elim
      (λ (few : s.intervals < i + 1).
      sym (sum_to_past (brings s i) s.intervals (i + 1) (omega arith)
      (λ (k : ℕ) from below. brings-share i k (omega arith) ∙ rw (dry k from) (mul-zero (get_or units (i - k) 0))))
      ∙ turned)
      (λ (many : i + 1 ≤ s.intervals).
      sum_to_past (brings s i) (i + 1) s.intervals many (λ (k : ℕ) from below. brings_none i k (omega arith)) ∙ turned)
      (below_or_not s.intervals (i + 1))

-- SO MANY INTERVALS SPREAD. q has what the first k of them bring to each of its n ordinates.
pub record Rows (s : Sheet) (n k : ℕ) (q : List ℕ) : Type 0 where
  pub long : length q ≡ n
  pub added : (i : ℕ) → i < n → get_or q i 0 ≡ sum_to (brings s i) k

module _ (s : Sheet) (n : ℕ) where
  pub rows_none : (k : ℕ) (q : List ℕ) → k ≡ 0 → q ≡ replicate n 0 → Rows s n k q
  rows_none k q none dry =
      record {
        long = ap length dry ∙ length-replicate n 0;
        added = λ (i : ℕ) h. ap (λ (xs : List ℕ). get_or xs i 0) dry ∙ get_or_alike n i 0 ∙ ap (sum_to (brings s i)) (sym none);
      }

  -- room for one share more from any ordinate on, as long as no more than 300 intervals were spread
  pub rows_room : AllUpTo 9_999_999 s.units → AllUpTo most_excess s.excesses → (k from : ℕ) (q : List ℕ) → k ≤ 300 → Rows s n k q
      → (j : ℕ) → j < length (part from (length q - from) q) → get_or (part from (length q - from) q) j 0 + most_share < 2 ^ 64
  rows_room hu he k from q few rows j h =
      let all = part_to_end from q in
      let within : from + j < n = omega (arith, rows.long, ap length all, length-drop from q, h) in
      let there : get_or (part from (length q - from) q) j 0 ≡ get_or q (from + j) 0 = ap (λ (xs : List ℕ). get_or xs j 0) all ∙ get_or-drop from q j 0 in
      let most = sum_to_bound (brings s (from + j)) most_share k (λ (m : ℕ). brings_up s hu he (from + j) m) in
      omega (arith, there, rows.added (from + j) within, most)

  -- an interval without excess brings nothing
  pub rows_dry : (k : ℕ) (q : List ℕ) → get_or s.excesses k 0 ≡ 0 → Rows s n k q → Rows s n (k + 1) q
  rows_dry k q none rows =
      record {
        long = rows.long;
        added =
            λ (i : ℕ) h.
            (let nothing : brings s i k ≡ 0 =
            ⊎_elim
            (λ (before : i < k). brings_none s i k before)
            (λ (from : k ≤ i). brings-share s i k from ∙ rw none (mul-zero (get_or s.units (i - k) 0)))
            (below_or_not i k) in
            omega (arith, rows.added i h, sum_to_more (brings s i) k, nothing));
      }

  -- an interval that is spread, from its own ordinate on
  added_row : (k d : ℕ) (q row : List ℕ) → k ≤ n → Rows s n k q → d ≡ get_or s.excesses k 0 → row ≡ spread_over s.units d (drop k q) → Rows s n (k + 1) (take k q ++ row)
  added_row k d q row within rows own spread =
      let units = s.units in
      let front : length (take k q) ≡ k = length-take-le k q (omega (arith, rows.long)) in
      let left : length (drop k q) ≡ n - k = simp length-drop (omega (arith, rows.long)) in
      let behind : length row ≡ n - k = ap length spread ∙ length-list_from (λ (j : ℕ). get_or (drop k q) j 0 + get_or units j 0 * d) 0 (length (drop k q)) ∙ left in
      record {
        long = simp length-append (omega (arith, front, behind));
        added =
            λ (i : ℕ) below.
            ⊎_elim
            (λ (before : i < k).
            get_or-append (take k q) row 0 i (omega (arith, front))
            ∙ get_or-take k q i 0 before
            ∙ omega (arith, rows.added i below, sum_to_more (brings s i) k, brings_none s i k before))
            (λ (from : k ≤ i).
            (let place : i ≡ length (take k q) + (i - k) = omega (arith, front) in
            let back : k + (i - k) ≡ i = omega arith in
            let there : get_or (drop k q) (i - k) 0 ≡ get_or q i 0 = get_or-drop k q (i - k) 0 ∙ ap (λ (p : ℕ). get_or q p 0) back in
            ap (λ (p : ℕ). get_or (take k q ++ row) p 0) place
            ∙ get_or-append-add (take k q) row (i - k) 0
            ∙ ap (λ (xs : List ℕ). get_or xs (i - k) 0) spread
            ∙ get_or_list (λ (j : ℕ). get_or (drop k q) j 0 + get_or units j 0 * d) (length (drop k q)) (i - k) (omega (arith, left))
            ∙ omega (arith, there, rows.added i below, sum_to_more (brings s i) k, brings-share s i k from, ap (λ (e : ℕ). get_or units (i - k) 0 * e) own)))
            (below_or_not i k);
      }

  -- what is spread, and from where, is asked for by equations: a proof has to show that both are the interval's own
  pub rows_more : (k from d : ℕ) (q row : List ℕ) → Rows s n k q → row ≡ spread_over s.units d (part from (length q - from) q) → k ≤ n → from ≡ k → d ≡ get_or s.excesses k 0
      → Rows s n (k + 1) (put from (length q - from) q row)
  rows_more k from d q row rows made within there own =
      rw (there, put_tail k q row) (added_row k d q row within rows own (rw (there, part_to_end k q) at made))

  -- all that have excess
  pub rows_all : s.intervals ≤ n → (q : List ℕ) → Rows s n s.intervals q → ((k : ℕ) → s.intervals ≤ k → get_or s.excesses k 0 ≡ 0)
      → q ≡ runoff_of s.units s.excesses n
  rows_all few q rows dry =
      ext_get_or 0 q (runoff_of s.units s.excesses n) (rows.long ∙ sym (length-list_from (ordinate s.units s.excesses) 0 n))
      (λ (i : ℕ) h.
      rows.added i (omega (arith, rows.long))
      ∙ sheet_order s dry i
      ∙ sym (get_or_list (ordinate s.units s.excesses) n i (omega (arith, rows.long))))
