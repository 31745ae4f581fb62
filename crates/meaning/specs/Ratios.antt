-- Document 02, CR 3, in figures: the rain under a ratio, the order of what comes back, the earliest 13, and every refusal of JR. Tables, by computation.
use Rattle.std.specs.Prelude.{ℕ, ◌≡◌, refl, List, [], ◌∷◌, ◌++◌, length}
use Rattle.meaning.specs.Words.{bytes}
use Rattle.meaning.specs.Water.{cut_of}
use Rattle.meaning.specs.Run.{worked, Lent, Answer, Accepted, Refused, outcome}
use Rattle.meaning.specs.Listing.{listing}
use Rattle.meaning.specs.Computing.{computing}
use Rattle.meaning.specs.Pond.{Row, row, Agree, refusal_in, flow_under, rain_under, excess_under}

-- A deck of one basin over four intervals with these lines behind IT, and these for its rain; LU takes 0.0001 inch at first.
abbrev basin : List ℕ → List ℕ → List ℕ
basin before lines = bytes "*FREE\nIT 60,,,4\n" ++ before ++ bytes "KK A\nBA 1\n" ++ lines ++ bytes "LU 0.0001\nUI 1\nZZ\n"

-- The same with rain of three ten-thousandths in a row.
abbrev rated : List ℕ → List ℕ
rated before = basin before (bytes "PI 0.0001,0.0001,0.0001\n")

-- Two basins and their confluence. Under 1.00 the first flow over the limit is that of the confluence, at ZZ on line 16; under 3.00 it is the second basin's, whose flow under 1.00 is 90,000 cfs, on line 14.
abbrev flood : List ℕ → List ℕ
flood ratios =
    bytes "*FREE\nIT 60,,,1\nJR PREC," ++ ratios
    ++ bytes "\nKK A\nBA 1\nPI 1\nLU\nUI 20000\nKK B\nBA 1\nPI 1\nLU\nUI 90000\nKK C\nHC 2\nZZ\n"

-- What was lent: room for four ordinates, and so many bytes of records.
abbrev lent : ℕ → Lent
lent records = record { work = 6_000; ordinates = 4; records = records }

abbrev answer_in : Answer → List ℕ
answer_in (Accepted nq blocks ratios) = nq ∷ blocks ∷ ratios ∷ []
answer_in (Refused number line) = number ∷ line ∷ []

-- The rain under a ratio, and what becomes of it.
abbrev ratios_table : List Row
ratios_table =
    -- by running sums: 0.55 of 60, 120 and 180 depth units is 33, 66 and 99; of 7, 14 and 21 it is 3, 7 and 11, where the floor of each interval would be 3, 3 and 3
    row (rain_under 1 1 (worked (rated (bytes "JR PREC,.55\n")))) (33 ∷ 33 ∷ 33 ∷ 0 ∷ []) ∷
    row (cut_of 55 100 (7 ∷ 7 ∷ 7 ∷ [])) (3 ∷ 4 ∷ 4 ∷ []) ∷
    -- running sums after PB: 60 over 1, 2 and 4 parts of 7 is 8, 17 and 35; half of 8, 25 and 60 is 4, 12 and 30
    row (rain_under 1 1 (worked (basin (bytes "JR PREC,0.5\n") (bytes "PB 0.0001\nPI 1,2,4\n")))) (4 ∷ 8 ∷ 18 ∷ 0 ∷ []) ∷
    -- the losses are those of the rain under the ratio: of 120 a first 60 fill the initial loss
    row (excess_under 2 1 (worked (rated (bytes "JR PREC,1,2,.01\n")))) (60 ∷ 120 ∷ 120 ∷ 0 ∷ []) ∷
    -- ratios in JR's order
    row (flow_under 1 1 (worked (rated (bytes "JR PREC,1,2,.01\n")))) (0 ∷ 6_000 ∷ 6_000 ∷ 0 ∷ []) ∷
    row (flow_under 2 1 (worked (rated (bytes "JR PREC,1,2,.01\n")))) (6_000 ∷ 12_000 ∷ 12_000 ∷ 0 ∷ []) ∷
    row (flow_under 3 1 (worked (rated (bytes "JR PREC,1,2,.01\n")))) (0 ∷ 0 ∷ 0 ∷ 0 ∷ []) ∷
    []

pub ratios : Agree ratios_table
unfolding computing
ratios =
    (refl, (refl, (refl, (refl, (refl, (refl, (refl, tt)))))))

-- Which refusal is met, and every one of JR.
abbrev ratio_refusals_table : List Row
ratio_refusals_table =
    -- the earliest line at which any ratio meets 13 is answered, and not the first ratio's
    row (refusal_in (worked (flood (bytes "1.00")))) (13 ∷ 16 ∷ []) ∷
    row (refusal_in (worked (flood (bytes "3.00")))) (13 ∷ 14 ∷ []) ∷
    row (refusal_in (worked (flood (bytes "1.00,3.00")))) (13 ∷ 14 ∷ []) ∷
    row (refusal_in (worked (flood (bytes "3.00,1.00")))) (13 ∷ 14 ∷ []) ∷
    -- 5: before IT, behind the first KK, twice, whatever its fields
    row (refusal_in (worked (bytes "*FREE\nJR X\n"))) (5 ∷ 2 ∷ []) ∷
    row (refusal_in (worked (bytes "*FREE\nIT 60,,,4\nKK A\nJR X\n"))) (5 ∷ 4 ∷ []) ∷
    row (refusal_in (worked (rated (bytes "JR PREC,1\nKM\n*FIX\nJR    FLOW\n")))) (5 ∷ 6 ∷ []) ∷
    -- 6: another word, a blank one, and a word that is no field 1; a ratio of three places; more than nine ratios
    row (refusal_in (worked (rated (bytes "JR FLOW,1\n")))) (6 ∷ 3 ∷ []) ∷
    row (refusal_in (worked (rated (bytes "JR ,1\n")))) (6 ∷ 3 ∷ []) ∷
    row (refusal_in (worked (rated (bytes "JR\n")))) (6 ∷ 3 ∷ []) ∷
    row (refusal_in (worked (rated (bytes "JR 1,PREC\n")))) (6 ∷ 3 ∷ []) ∷
    row (refusal_in (worked (rated (bytes "JR PREC,0.125\n")))) (6 ∷ 3 ∷ []) ∷
    row (refusal_in (worked (rated (bytes "JR PREC,1,2,3,4,5,6,7,8,9,1\n")))) (6 ∷ 3 ∷ []) ∷
    -- 6 comes before 7 over the whole line
    row (refusal_in (worked (rated (bytes "JR prec,0\n")))) (6 ∷ 3 ∷ []) ∷
    -- 7: no ratio, a blank between ratios, 0, 10
    row (refusal_in (worked (rated (bytes "JR PREC\n")))) (7 ∷ 3 ∷ []) ∷
    row (refusal_in (worked (rated (bytes "JR PREC,1,,2\n")))) (7 ∷ 3 ∷ []) ∷
    row (refusal_in (worked (rated (bytes "JR PREC,0\n")))) (7 ∷ 3 ∷ []) ∷
    row (refusal_in (worked (rated (bytes "JR PREC,10\n")))) (7 ∷ 3 ∷ []) ∷
    -- nine ratios, and both limits
    row (refusal_in (worked (rated (bytes "JR PREC,.01,9.99,1,1,1,1,1,1,1\n")))) [] ∷
    []

pub ratio_refusals : Agree ratio_refusals_table
unfolding computing
ratio_refusals =
    (refl, (refl, (refl, (refl, (refl, (refl, (refl, (refl, (refl, (refl, (refl, (refl, (refl, (refl, (refl, (refl, (refl, (refl, (refl, tt)))))))))))))))))))

-- What comes back.
abbrev ratio_answers_table : List Row
ratio_answers_table =
    -- the answer counts ratios, 1 without JR; 17 counts 40 bytes a block and ratio, and a named ratio above the count
    row (answer_in (outcome (rated []) 1 1 (lent 40)).answer) (4 ∷ 1 ∷ 1 ∷ []) ∷
    row (answer_in (outcome (rated (bytes "JR PREC,1,2,.01\n")) 0 3 (lent 120)).answer) (4 ∷ 1 ∷ 3 ∷ []) ∷
    row (answer_in (outcome (rated (bytes "JR PREC,1,2,.01\n")) 0 3 (lent 119)).answer) (17 ∷ 0 ∷ []) ∷
    row (answer_in (outcome (rated (bytes "JR PREC,1,2,.01\n")) 0 4 (lent 120)).answer) (17 ∷ 0 ∷ []) ∷
    -- the ordinates of the named ratio, 0 the last
    row (outcome (rated (bytes "JR PREC,1,2,.01\n")) 1 2 (lent 120)).ordinates (6_000 ∷ 12_000 ∷ 12_000 ∷ 0 ∷ []) ∷
    row (outcome (rated (bytes "JR PREC,.01,1\n")) 0 0 (lent 120)).ordinates (0 ∷ 6_000 ∷ 6_000 ∷ 0 ∷ []) ∷
    -- and so many bytes of records, zeros behind them
    row (length (outcome (rated (bytes "JR PREC,.01,1\n")) 0 0 (lent 120)).records ∷ []) (120 ∷ []) ∷
    []

pub ratio_answers : Agree ratio_answers_table
unfolding computing
ratio_answers =
    (refl, (refl, (refl, (refl, (refl, (refl, (refl, tt)))))))

-- The listing: a line for each ratio, with one ratio too, and none without JR; the block count once.
pub listing_two : listing (rated (bytes "JR PREC,1,2.5\n")) ≡
    bytes "RATIO 1.00\n" ++
    bytes "A 1 1.00 0.00 2 12000\n" ++
    bytes "RATIO 2.50\n" ++
    bytes "A 1 1.00 0.00 2 39000\n" ++
    bytes "END 1\n"
unfolding computing
listing_two = refl

pub listing_one : listing (rated (bytes "JR PREC,1\n")) ≡ bytes "RATIO 1.00\n" ++ listing (rated [])
unfolding computing
listing_one = refl
