-- What the code goes by of the table of records: where the region of a record begins, for how many values it has room, how the record stands.
--     field_row, rules_by          the row of a record with fields: one of a block, the time control, or the ratios
--     room_in, start_of, words_of   how many values a region has room for, where it begins, and how many words all of them are
--     way_in, most_in, span_in      how a record stands, the most values it has in a block, how many of a line's values are its own
use Rattle.std.specs.Prelude.{ℕ, zero, suc, ◌+◌, ◌≤◌, ◌<◌, ◌≡◌, Bool, true, ◌&&◌, List, [], ◌∷◌, ◌++◌, length, get_or, replicate}
use Rattle.std.proofs.Common.{zero-le, arith, leb-true}
use Rattle.std.proofs.Math.Path.{refl}
use Rattle.std.proofs.Math.ListN.{get_or-append}
use Rattle.sequences.specs.Choices.{both_hold}
use Rattle.meaning.specs.Words.{◌=?◌, ◌≤?◌, when◌then◌else◌}
use Rattle.meaning.specs.Records.{Rule, Limited, only, UpTo, UpToNQ, Row, Once, Listed, table, time_rules, Item, row_of, rules_in, most_ordinates}

-- how many records there are
abbrev pub items : ℕ
items = length table

abbrev pub row_at : List Row → ℕ → Row
row_at rows p = get_or rows p (Once "" [])

-- JR as a pass over its fields holds it: all ten fields are looked at, and a blank one is a ratio of 0. Only behind the last field is it known which ratios there are.
abbrev pub ratio_scan : List Rule
ratio_scan = only 6 "PREC" ∷ replicate 9 (Limited 2 0 999)

-- the rows with fields: a block's records, and behind them the time control and the ratios
abbrev pub time_rows : List Row
time_rows = Once "IT" time_rules ∷ Once "JR" ratio_scan ∷ []

abbrev pub field_rows : List Row
field_rows = table ++ time_rows

abbrev pub field_row : Item → Row
field_row item = row_at field_rows item

abbrev pub rules_by : Item → List Rule
rules_by item = rules_in (field_row item)

pub block_row : (item : Item) → item < items → field_row item ≡ row_of item
block_row item h = get_or-append table time_rows (Once "" []) item h

-- NQ is at most 300
abbrev pub room_in : Row → ℕ
room_in (Once identifier fields) = length fields
room_in (Listed identifier (UpTo n) each) = n
room_in (Listed identifier UpToNQ each) = most_ordinates

abbrev pub start_of : List Row → ℕ → ℕ
start_of rows zero = 0
start_of [] (suc p) = 0
start_of (row ∷ rows) (suc p) = suc (room_in row) + start_of rows p

abbrev pub words_of : List Row → ℕ
words_of [] = 0
words_of (row ∷ rows) = suc (room_in row) + words_of rows

unfoldable pub start : Item → ℕ
start item = start_of table item

abbrev pub room_of : Item → ℕ
room_of item = room_in (row_of item)

-- how a record stands: once; a list of at most so many; a list of at most NQ
abbrev pub way_in : Row → ℕ
way_in (Once identifier fields) = 0
way_in (Listed identifier (UpTo n) each) = 1
way_in (Listed identifier UpToNQ each) = 2

-- the most values that a record has in a block, and how many of a line's values are its own
abbrev pub most_in : Row → ℕ → ℕ
most_in (Once identifier fields) nq = length fields
most_in (Listed identifier (UpTo n) each) nq = n
most_in (Listed identifier UpToNQ each) nq = nq

abbrev pub span_in : Row → ℕ → ℕ
span_in (Once identifier fields) count = length fields
span_in (Listed identifier most each) count = count

pub start-next : (rows : List Row) (p : ℕ) → p < length rows → start_of rows (suc p) ≡ start_of rows p + suc (room_in (row_at rows p))
start-next [] p h = absurd (omega arith)
start-next (row ∷ rows) zero h = omega arith
start-next (row ∷ rows) (suc p) h = let e = start-next rows p (omega arith) in omega arith

pub start_fits : (rows : List Row) (p : ℕ) → p < length rows → start_of rows p + suc (room_in (row_at rows p)) ≤ words_of rows
start_fits [] p h = absurd (omega arith)
start_fits (row ∷ rows) zero h = omega arith
start_fits (row ∷ rows) (suc p) h = let e = start_fits rows p (omega arith) in omega arith

pub next_start : (item : Item) → item < items → start (item + 1) ≡ start item + suc (room_of item)
unfolding start
next_start item h = let e : item + 1 ≡ suc item = omega arith in rw e (start-next table item h)

-- the same by numbers
abbrev pub span_by : (way room count : ℕ) → ℕ
span_by way room count = when way =? 0 then room else count

abbrev pub most_by : (way room nq : ℕ) → ℕ
most_by way room nq = when way =? 2 then nq else room

module _ (row : Row) where
  pub span-by : (count : ℕ) → span_by (way_in row) (room_in row) count ≡ span_in row count
  unfolding when◌then◌else◌
  span-by count = by row
    where
      by : (r : Row) → span_by (way_in r) (room_in r) count ≡ span_in r count
      by (Once i fs) = refl
      by (Listed i (UpTo n) r) = refl
      by (Listed i UpToNQ r) = refl

  pub most-by : (nq : ℕ) → most_by (way_in row) (room_in row) nq ≡ most_in row nq
  unfolding when◌then◌else◌
  most-by nq = by row
    where
      by : (r : Row) → most_by (way_in r) (room_in r) nq ≡ most_in r nq
      by (Once i fs) = refl
      by (Listed i (UpTo n) r) = refl
      by (Listed i UpToNQ r) = refl

  pub most_fits : (nq : ℕ) → nq ≤ most_ordinates → most_in row nq ≤ room_in row
  most_fits nq h = by row
    where
      by : (r : Row) → most_in r nq ≤ room_in r
      by (Once i fs) = omega arith
      by (Listed i (UpTo n) r) = omega arith
      by (Listed i UpToNQ r) = h

-- no record has more than ten fields: one test over the rows
abbrev few_fields : List Row → Bool
few_fields [] = true
few_fields (row ∷ rows) = (length (rules_in row) ≤? 10) && few_fields rows

few_each : (rows : List Row) → few_fields rows ≡ true → (p : ℕ) → length (rules_in (row_at rows p)) ≤ 10
few_each [] h p = zero-le
few_each (row ∷ rows) h zero = leb-true (length (rules_in row)) 10 (both_hold (length (rules_in row) ≤? 10) (few_fields rows) h).0
few_each (row ∷ rows) h (suc p) = few_each rows (both_hold (length (rules_in row) ≤? 10) (few_fields rows) h).1 p

pub few_rules : (item : Item) → length (rules_by item) ≤ 10
few_rules item = few_each field_rows refl item

pub span_few : (item : Item) (count : ℕ) → count ≤ 10 → span_in (field_row item) count ≤ 10
span_few item count h = by (field_row item) (few_rules item)
  where
    by : (r : Row) → length (rules_in r) ≤ 10 → span_in r count ≤ 10
    by (Once i fs) k = k
    by (Listed i m r) k = h

pub own_few : (item : Item) (count : ℕ) → item < items → count ≤ 10 → span_in (row_of item) count ≤ 10
own_few item count inside h = rw (← block_row item inside) (span_few item count h)
