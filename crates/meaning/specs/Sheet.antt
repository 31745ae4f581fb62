-- Document 02, CR 5: the hand sheet of a runoff block. One interval's excess is spread over all the unit ordinates, then the next interval's; the sums of the columns
-- are the ordinates.
use Rattle.std.specs.Prelude.{ℕ, zero, suc, ◌+◌, ◌-◌, ◌*◌, ◌/◌, ◌%◌, Bool, ◌&&◌, List, [], ◌∷◌, ◌++◌, length, get_or}
use Rattle.meaning.specs.Words.{◌=?◌, ◌≤?◌, ◌<?◌, when◌then◌else◌, bytes}
use Rattle.meaning.specs.Lines.{lf}
use Rattle.meaning.specs.Water.{list_from, sum_to, share}
use Rattle.meaning.specs.Blocks.{Time, Block, opened, kind_number, kind_of, unit_ordinates, rain, loss, excess}
use Rattle.meaning.specs.Results.{Result, blocks_of}
use Rattle.meaning.specs.Run.{place_of}
use Rattle.meaning.specs.Listing.{digit, whole, two_places}
use Rattle.meaning.specs.Shown.{shown}

-- WHAT THE SHEET IS MADE FROM: the unit ordinates, and the rain, the loss and the excess of each of so many intervals.
pub record Sheet : Type 0 where
  pub units : List ℕ
  pub rains : List ℕ
  pub losses : List ℕ
  pub excesses : List ℕ
  pub intervals : ℕ

abbrev pub sheet_of : Time → Block → Sheet
sheet_of τ b = record { units = unit_ordinates b; rains = rain τ b; losses = loss τ b; excesses = excess τ b; intervals = τ.ordinates }

-- THE SHARES. That of interval k at ordinate i, both counted from 0, is the one of unit ordinate i - k. None falls on an ordinate before the interval, nor behind
-- the last unit ordinate.
abbrev pub falls : Sheet → (k i : ℕ) → Bool
falls s k i = (k ≤? i) && ((i - k) <? length s.units)

abbrev pub share_at : Sheet → (k i : ℕ) → ℕ
share_at s k i = share s.units s.excesses i (i - k)

-- What interval k brings to ordinate i; and THE SUM of a column.
abbrev pub brings : Sheet → (i k : ℕ) → ℕ
brings s i k = when falls s k i then share_at s k i else 0

abbrev pub column_sum : Sheet → ℕ → ℕ
column_sum s i = sum_to (brings s i) s.intervals

abbrev pub column_sums : Sheet → List ℕ
column_sums s = list_from (column_sum s) 0 s.intervals

-- ON PAPER, in one of two measures: depth units and flow units, exact; or inches and cfs to six places, half up.
pub data Measure : Type 0 where
  Units Customary : Measure

abbrev pub measure_name : Measure → List ℕ
measure_name Units = bytes "units"
measure_name Customary = bytes "inches and cfs"

-- Millionths, with six places.
unfoldable pub six_places : ℕ → List ℕ
six_places x =
    whole (x / 1_000_000)
    ++ bytes "."
    ++ (digit (x / 100_000 % 10) ∷ digit (x / 10_000 % 10) ∷ digit (x / 1_000 % 10) ∷ digit (x / 100 % 10) ∷ digit (x / 10 % 10) ∷ digit (x % 10) ∷ [])

-- A depth in millionths of an inch, of which a depth unit is ten sixths; a flow in millionths of a cfs, of which a flow unit is a sixtieth.
abbrev pub inch_millionths : ℕ → ℕ
inch_millionths depth = (10 * depth + 3) / 6

abbrev pub cfs_millionths : ℕ → ℕ
cfs_millionths flow = (flow + 30) / 60

abbrev pub depth_text : Measure → ℕ → List ℕ
depth_text Units depth = whole depth
depth_text Customary depth = six_places (inch_millionths depth)

abbrev pub flow_text : Measure → ℕ → List ℕ
flow_text Units flow = whole flow
flow_text Customary flow = six_places (cfs_millionths flow)

-- n cells of a line, from the one at i on, each behind a comma.
abbrev pub cells_from : (ℕ → List ℕ) → (i n : ℕ) → List ℕ
cells_from text i zero = []
cells_from text i (suc n) = bytes "," ++ text i ++ cells_from text (i + 1) n

-- The measure, the ratio in force and the block's name.
unfoldable pub title_line : Measure → (ratio : ℕ) → (name : List ℕ) → List ℕ
title_line m ratio name = measure_name m ++ bytes "," ++ two_places ratio ++ bytes "," ++ name ++ (lf ∷ [])

-- What the columns are: the ordinates by their numbers, from 1.
unfoldable pub head_line : (intervals : ℕ) → List ℕ
head_line intervals = bytes "interval,rain,loss,excess" ++ cells_from (λ (i : ℕ). whole (i + 1)) 0 intervals ++ (lf ∷ [])

-- A row: the interval's number, from 1, its rain, its loss and its excess, then its shares by ordinate. Where no share falls the cell is empty.
abbrev pub share_text : Measure → Sheet → (k i : ℕ) → List ℕ
share_text m s k i = when falls s k i then flow_text m (share_at s k i) else []

unfoldable pub row_line : Measure → Sheet → (k : ℕ) → List ℕ
row_line m s k =
    whole (k + 1)
    ++ bytes ","
    ++ depth_text m (get_or s.rains k 0)
    ++ bytes ","
    ++ depth_text m (get_or s.losses k 0)
    ++ bytes ","
    ++ depth_text m (get_or s.excesses k 0)
    ++ cells_from (share_text m s k) 0 s.intervals
    ++ (lf ∷ [])

-- A row for each interval with excess: those of n intervals, from the one at k on.
abbrev pub rows_from : Measure → Sheet → (k n : ℕ) → List ℕ
rows_from m s k zero = []
rows_from m s k (suc n) = (when 0 <? get_or s.excesses k 0 then row_line m s k else []) ++ rows_from m s (k + 1) n

-- The last row.
unfoldable pub sum_line : Measure → (sums : List ℕ) → (intervals : ℕ) → List ℕ
sum_line m sums intervals = bytes "sum,,," ++ cells_from (λ (i : ℕ). flow_text m (get_or sums i 0)) 0 intervals ++ (lf ∷ [])

-- A table, and the two that make a block's sheet.
abbrev pub table_text : Measure → Sheet → (sums : List ℕ) → List ℕ
table_text m s sums = head_line s.intervals ++ rows_from m s 0 s.intervals ++ sum_line m sums s.intervals

abbrev pub table_of : Measure → Time → Block → List ℕ
table_of m τ b = title_line m τ.ratio b.name ++ table_text m (sheet_of τ b) (column_sums (sheet_of τ b))

-- Only a runoff block has a sheet; of another its kind is told.
unfoldable pub no_sheet_line : (kind : ℕ) → List ℕ
no_sheet_line kind = bytes "NO SHEET " ++ whole kind ++ (lf ∷ [])

abbrev pub sheet_text : Time → Block → List ℕ
sheet_text τ b = when kind_number (kind_of b) =? 1 then table_of Units τ b ++ table_of Customary τ b else no_sheet_line (kind_number (kind_of b))

-- THE SHEET OF A DECK, for the named block under the named ratio.
abbrev pub named_block : ℕ → List Result → Block
named_block named rs = get_or (blocks_of rs) (place_of named (length rs)) (opened [])

abbrev pub sheet_in : (named : ℕ) → Time → List Result → List ℕ
sheet_in named τ rs = sheet_text τ (named_block named rs)

unfoldable pub sheet : List ℕ → (named ratio : ℕ) → List ℕ
sheet deck named ratio = shown (sheet_in named) deck named ratio
