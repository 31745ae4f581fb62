-- Document 02, CR 1, in figures: the rain that a total and a pattern make, and every refusal of PB. One table, by computation.
use Rattle.std.specs.Prelude.{ℕ, refl, List, [], ◌∷◌, ◌++◌}
use Rattle.meaning.specs.Words.{bytes}
use Rattle.meaning.specs.Records.{BA, PI, LU, UI, PB}
use Rattle.meaning.specs.Water.{cut_of}
use Rattle.meaning.specs.Blocks.{Time, Block, Given, opened, with_card}
use Rattle.meaning.specs.Run.{worked, shape_refusal}
use Rattle.meaning.specs.Computing.{computing}
use Rattle.meaning.specs.Pond.{Row, row, Agree, refusal_in, rain_in}

-- A deck of one basin over five intervals, with these lines for its rain; LU takes nothing.
abbrev basin : List ℕ → List ℕ
basin lines = bytes "*FREE\nIT 60,,,5\nKK A\nBA 1\n" ++ lines ++ bytes "LU\nUI 1\nZZ\n"

-- The same block without UI; an inflow and a confluence with a total.
abbrev no_units : List ℕ
no_units = bytes "*FREE\nIT 60,,,5\nKK A\nBA 1\nPB 1\nPI 0\nLU\nZZ\n"

abbrev inflow_total : List ℕ
inflow_total = bytes "*FREE\nIT 60,,,5\nKK A\nPB 1\nQI 1\nZZ\n"

-- A basin with a total of 1 inch and an empty pattern.
abbrev hour : Time
hour = record { minutes = 60; ordinates = 5; ratio = 100; listed = [] }

abbrev dry_basin : Block
dry_basin =
    with_card BA (Given (100 ∷ [])) (with_card PB (Given (10_000 ∷ [])) (with_card PI (Given []) (with_card LU (Given (0 ∷ 0 ∷ 0 ∷ [])) (with_card UI (Given []) (opened [])))))

abbrev table : List Row
table =
    -- by running sums nothing is lost: 10 over three equal parts is 3, 3 and 4
    row (cut_of 10 3 (1 ∷ 1 ∷ 1 ∷ [])) (3 ∷ 3 ∷ 4 ∷ []) ∷
    -- a ten-thousandth of an inch, 60 depth units, over 1, 2, none and 4 parts of 7; PB before PI or behind it
    row (rain_in 1 (worked (basin (bytes "PB 0.0001\nPI 1,2,,4\n")))) (8 ∷ 17 ∷ 0 ∷ 35 ∷ 0 ∷ []) ∷
    row (rain_in 1 (worked (basin (bytes "PI 1,2,,4\nPB 0.0001\n")))) (8 ∷ 17 ∷ 0 ∷ 35 ∷ 0 ∷ []) ∷
    -- a total that is the pattern's own sum changes nothing, and without PB the values are the rain
    row (rain_in 1 (worked (basin (bytes "PB 0.0007\nPI 0.0001,0.0002,,0.0004\n")))) (60 ∷ 120 ∷ 0 ∷ 240 ∷ 0 ∷ []) ∷
    row (rain_in 1 (worked (basin (bytes "PI 0.0001,0.0002,,0.0004\n")))) (60 ∷ 120 ∷ 0 ∷ 240 ∷ 0 ∷ []) ∷
    -- a total of 0, or a blank one, is no rain, whatever the pattern
    row (rain_in 1 (worked (basin (bytes "PB 0\nPI 1,2,,4\n")))) (0 ∷ 0 ∷ 0 ∷ 0 ∷ 0 ∷ []) ∷
    row (rain_in 1 (worked (basin (bytes "PB\nPI 0,0\n")))) (0 ∷ 0 ∷ 0 ∷ 0 ∷ 0 ∷ []) ∷
    row (rain_in 1 (worked (basin (bytes "PB\nPI\n")))) (0 ∷ 0 ∷ 0 ∷ 0 ∷ 0 ∷ []) ∷
    -- 18, at ZZ: a total above 0 with values that are all 0, or with none
    row (refusal_in (worked (basin (bytes "PB 1\nPI 0,0\n")))) (18 ∷ 9 ∷ []) ∷
    row (refusal_in (worked (basin (bytes "PB 0.0001\nPI\n")))) (18 ∷ 9 ∷ []) ∷
    -- a second PB, before its fields are looked at; a field behind the first, and five places; over 100 inches
    row (refusal_in (worked (basin (bytes "PB 1\nPB X\nPI 1\n")))) (5 ∷ 6 ∷ []) ∷
    row (refusal_in (worked (basin (bytes "PB 1,0\nPI 1\n")))) (6 ∷ 5 ∷ []) ∷
    row (refusal_in (worked (basin (bytes "PB 0.00011\nPI 1\n")))) (6 ∷ 5 ∷ []) ∷
    row (refusal_in (worked (basin (bytes "PB 100.0001\nPI 1\n")))) (7 ∷ 5 ∷ []) ∷
    -- 9 comes before 18, and PB makes no other block a kind
    row (refusal_in (worked no_units)) (9 ∷ 8 ∷ []) ∷
    row (refusal_in (worked inflow_total)) (9 ∷ 6 ∷ []) ∷
    row (refusal_in (worked (basin (bytes "PB 1\n")))) (9 ∷ 8 ∷ []) ∷
    -- 18 comes before 11: twenty are held
    row (shape_refusal hour dry_basin 20 ∷ []) (18 ∷ []) ∷
    []

pub storms : Agree table
unfolding computing
storms =
    (refl, (refl, (refl, (refl, (refl, (refl, (refl, (refl, (refl, (refl, (refl, (refl, (refl, (refl, (refl, (refl, (refl, (refl, tt))))))))))))))))))
