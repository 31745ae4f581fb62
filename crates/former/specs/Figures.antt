-- Decks by the reader as it was and by that of now, in figures: of those that were refused by 6 some are accepted now, some refused by another number or at a later line, and
-- some as they were; so that 'unless it was refused by 6' (Answers, only-six_changed) cannot go. One table, by computation.
use Rattle.std.specs.Prelude.{ℕ, refl, List, [], ◌∷◌, ◌++◌}
use Rattle.meaning.specs.Words.{bytes}
use Rattle.meaning.specs.Run.{Every, Worked, worked}
use Rattle.meaning.specs.Computing.{computing}
use Rattle.meaning.specs.Pond.{Row, row, Agree, refusal_in, flow_in}
use Rattle.former.specs.Reader.{former_decimal, former_number}
use Rattle.former.specs.ByReader.{values_by, time_refusal_by, time_of_by, ratio_refusal_by, with_ratios_by, item_refusal_by, with_item_by, read_line_by, walk_by, worked_under_by}

abbrev formerly : List ℕ → Worked
formerly deck = worked_under_by former_number Every deck

-- A basin under one inch of rain, with that for the area on line 4 and that for the unit ordinates on line 7.
abbrev basin : (area units : List ℕ) → List ℕ
basin area units = bytes "*FREE\nIT 60,,,2\nKK A\nBA " ++ area ++ bytes "\nPI 1\nLU\nUI " ++ units ++ bytes "\nZZ\n"

abbrev table : List Row
table =
    -- the customer's UI: refused by 6, and now what 1.5 was and is
    row (refusal_in (formerly (basin (bytes "1") (bytes "1.500")))) (6 ∷ 7 ∷ []) ∷
    row (flow_in 1 (worked (basin (bytes "1") (bytes "1.500")))) (90_000_000 ∷ 0 ∷ []) ∷
    row (flow_in 1 (formerly (basin (bytes "1") (bytes "1.5")))) (90_000_000 ∷ 0 ∷ []) ∷
    row (flow_in 1 (formerly (basin (bytes "1") (bytes "1.50")))) (90_000_000 ∷ 0 ∷ []) ∷
    -- an area of 0.000 was refused by 6 and is by 7; one of 1.000 leaves the next fault to be met, on a later line
    row (refusal_in (formerly (basin (bytes "0.000") (bytes "1")))) (6 ∷ 4 ∷ []) ∷
    row (refusal_in (worked (basin (bytes "0.000") (bytes "1")))) (7 ∷ 4 ∷ []) ∷
    row (refusal_in (formerly (basin (bytes "1.000") (bytes "1.505")))) (6 ∷ 4 ∷ []) ∷
    row (refusal_in (worked (basin (bytes "1.000") (bytes "1.505")))) (6 ∷ 7 ∷ []) ∷
    -- ten digits are too many, zeros or not
    row (refusal_in (formerly (basin (bytes "1.000000000") (bytes "1")))) (6 ∷ 4 ∷ []) ∷
    row (refusal_in (worked (basin (bytes "1.000000000") (bytes "1")))) (6 ∷ 4 ∷ []) ∷
    []

pub figures : Agree table
unfolding computing former_decimal former_number values_by time_refusal_by time_of_by ratio_refusal_by with_ratios_by item_refusal_by with_item_by read_line_by walk_by worked_under_by
figures = (refl, (refl, (refl, (refl, (refl, (refl, (refl, (refl, (refl, (refl, tt))))))))))
