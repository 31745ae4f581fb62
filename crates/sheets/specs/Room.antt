-- How much room the lines of a table take.
--     numbers_short, shares_short, flows_short       the cells of a line take at most cell_size bytes each; behind_shares: by the place behind them
--     head_short, row_short, all_short, sum_short    a line takes at most row_size
--     rows_up, rows_all                              one row more is within them all, and all of them, the head and the sums are the table
--     table_short, title_short                       at most table_size, and title_size; table_most: the table of the most ordinates is the largest
use Rattle.std.specs.Prelude.{ℕ, ◌+◌, ◌*◌, ◌/◌, ◌≤◌, ◌<◌, ◌≡◌, Bool, List, [], ◌∷◌, ◌++◌}
use Rattle.std.proofs.Math.Bool.{true, false}
use Rattle.std.proofs.Common.{mul-le-mul, mul-le-mul_left, length-append}
use native.Mathlib.Omega.{arith}
use Rattle.std.proofs.Math.ListN.{length, get_or}
use Rattle.meaning.specs.Words.{◌<?◌, when◌then◌else◌, bytes}
use Rattle.meaning.specs.Lines.{lf}
use Rattle.meaning.specs.Records.{most_ordinates}
use Rattle.meaning.specs.Listing.{whole, two_places}
use Rattle.meaning.specs.Sheet.{Measure, Units, Customary, Sheet, measure_name, title_line, cells_from, flow_text, head_line, row_line, sum_line, rows_from, table_text}
use Rattle.text.specs.Digits.{whole_within, length-two_places}
use Rattle.text.specs.Written.{Written}
use Rattle.cells.specs.Sizes.{cell_size, depths_size}
use Rattle.cells.specs.Cells.{depths_text, share_by}
use Rattle.cells.specs.Room.{count_short, flow_short, depths_short, share_short}
use Rattle.sheets.specs.Sizes.{name_size, ratio_size, title_size, row_size, table_size}
use Rattle.sheets.specs.Tables.{row_at}
use Rattle.sheets.specs.Lines.{cells_short, rows_short, row_cells}

-- THE CELLS of each line
pub numbers_short : (n : ℕ) → length (cells_from (λ (i : ℕ). whole (i + 1)) 0 n) ≤ cell_size * n
numbers_short n = cells_short (λ (i : ℕ). whole (i + 1)) cell_size (λ (i : ℕ). count_short (i + 1)) n

pub shares_short : (m : Measure) (units : List ℕ) (excess k n : ℕ) → length (cells_from (share_by m units excess k) 0 n) ≤ cell_size * n
shares_short m units excess k n = cells_short (share_by m units excess k) cell_size (share_short m units excess k) n

-- and the place behind the shares
pub behind_shares : (m : Measure) (units : List ℕ) (excess k n : ℕ) {at behind : ℕ} {out next : List ℕ} → Written out at (cells_from (share_by m units excess k) 0 n) next behind
    → behind ≤ at + cell_size * n
behind_shares m units excess k n w = omega (arith, w.place, shares_short m units excess k n)

pub flows_short : (m : Measure) (sums : List ℕ) (n : ℕ) → length (cells_from (λ (i : ℕ). flow_text m (get_or sums i 0)) 0 n) ≤ cell_size * n
flows_short m sums n = cells_short (λ (i : ℕ). flow_text m (get_or sums i 0)) cell_size (λ (i : ℕ). flow_short m (get_or sums i 0)) n

-- THE LINES
pub head_short : (n : ℕ) → length (head_line n) ≤ row_size n
unfolding head_line
head_short n = simp length-append (omega (arith, numbers_short n))

pub sum_short : (m : Measure) (sums : List ℕ) (n : ℕ) → length (sum_line m sums n) ≤ row_size n
unfolding sum_line
sum_short m sums n = simp length-append (omega (arith, flows_short m sums n))

length_four : (a b c d : List ℕ) → length (a ++ b ++ c ++ d) ≡ length a + length b + length c + length d
length_four a b c d = simp length-append

module _ (m : Measure) (s : Sheet) where
  row_short : (k : ℕ) → length (row_line m s k) ≤ row_size s.intervals
  row_short k =
      let excess = get_or s.excesses k 0 in
      let depths = depths_text m (get_or s.rains k 0) (get_or s.losses k 0) excess in
      let shares = cells_from (share_by m s.units excess k) 0 s.intervals in
      let three : length depths ≤ depths_size = depths_short m (get_or s.rains k 0) (get_or s.losses k 0) excess in
      rw (row_cells m s k, length_four (whole (k + 1)) depths shares (lf ∷ [])) (omega (arith, whole_within (k + 1), three, shares_short m s.units excess k s.intervals))

  row_at_short : (k : ℕ) → length (row_at m s k) ≤ row_size s.intervals
  unfolding when◌then◌else◌
  row_at_short k = by_test (0 <? get_or s.excesses k 0)
    where
      by_test : (t : Bool) → length (when t then row_line m s k else []) ≤ row_size s.intervals
      by_test true = row_short k
      by_test false = omega arith

  pub all_short : (n : ℕ) → length (rows_from m s 0 n) ≤ row_size s.intervals * n
  all_short n = rows_short m s (row_size s.intervals) row_at_short n

-- one row more, and all of them between the head and the sums
module _ (size n : ℕ) where
  pub rows_up : (k : ℕ) → k < n → size * k + size ≤ size * n
  rows_up k below = omega (arith, mul-le-mul_left size below)

  pub rows_all : size + size * n + size ≡ size * (n + 2)
  rows_all = omega arith

pub table_short : (m : Measure) (s : Sheet) (sums : List ℕ) → length (table_text m s sums) ≤ table_size s.intervals
table_short m s sums =
    let n = s.intervals in
    simp length-append (omega (arith, head_short n, all_short m s n, sum_short m sums n, rows_all (row_size n) n))

-- that of the most ordinates is the largest
pub table_most : (n : ℕ) → n ≤ most_ordinates → table_size n ≤ table_size most_ordinates
table_most n few = mul-le-mul {n₁ = row_size n} {m₁ = n + 2} {n₂ = row_size most_ordinates} {m₂ = most_ordinates + 2} (omega arith) (omega arith)

-- THE TITLE
pub measure_short : (m : Measure) → length (measure_name m ++ bytes ",") ≤ name_size
measure_short Units = omega arith
measure_short Customary = omega arith

pub ratio_within : (ratio : ℕ) → length (two_places ratio) < ratio_size
ratio_within ratio = omega (arith, length-two_places ratio, whole_within (ratio / 100))

pub title_short : (m : Measure) (ratio : ℕ) (name : List ℕ) → length (title_line m ratio name) ≤ title_size (length name)
unfolding title_line
title_short m ratio name = simp length-append (omega (arith, simp length-append at (measure_short m), ratio_within ratio))
