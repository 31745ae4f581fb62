-- Document 02, CR 7, in figures: numbers with trailing zeros by themselves and on every record, decks that differ in such zeros alone, and what is refused still.
-- Tables, by computation.
use Rattle.std.specs.Prelude.{ℕ, ◌≡◌, refl, List, [], ◌∷◌, ◌++◌}
use Prim.Native.String.{String}
use Rattle.meaning.specs.Words.{bytes, met}
use Rattle.meaning.specs.Numbers.{Number, NoNumber, Decimal, number_of}
use Rattle.meaning.specs.Records.{Item, BA, PI, LU, UI, QI, HC, RM, PB, RS, SV, SQ}
use Rattle.meaning.specs.Blocks.{Block, Given, values_of, opened, card_of, with_card}
use Rattle.meaning.specs.Results.{Result}
use Rattle.meaning.specs.Run.{Worked, Stopped, Done, worked}
use Rattle.meaning.specs.Computing.{computing}
use Rattle.meaning.specs.Pond.{pond, Row, row, Agree, refusal_in, time_in, block_at}

-- THE NUMBER READER. A number in figures: 1 where it has a minus and 0 where not, its digits as one number, its places. What is no number has none.
abbrev figures : Number → List ℕ
figures NoNumber = []
figures (Decimal minus digits places) = met minus 1 ∷ digits ∷ places ∷ []

abbrev read : String → List ℕ
read text = figures (number_of (bytes text))

-- Value and places are those that are left.
abbrev left_table : List Row
left_table =
    -- of a fraction with a digit, and of one without
    row (read "1.500") (0 ∷ 15 ∷ 1 ∷ []) ∷
    row (read "1.50") (0 ∷ 15 ∷ 1 ∷ []) ∷
    row (read "1.5") (0 ∷ 15 ∷ 1 ∷ []) ∷
    row (read "60.0") (0 ∷ 60 ∷ 0 ∷ []) ∷
    row (read "60.") (0 ∷ 60 ∷ 0 ∷ []) ∷
    row (read "60") (0 ∷ 60 ∷ 0 ∷ []) ∷
    row (read "-.50") (1 ∷ 5 ∷ 1 ∷ []) ∷
    row (read "+2.250") (0 ∷ 225 ∷ 2 ∷ []) ∷
    -- nothing but zeros; and a blank field, which is 0
    row (read ".0") (0 ∷ 0 ∷ 0 ∷ []) ∷
    row (read "0.000") (0 ∷ 0 ∷ 0 ∷ []) ∷
    row (read "-0.0") (1 ∷ 0 ∷ 0 ∷ []) ∷
    row (read "0") (0 ∷ 0 ∷ 0 ∷ []) ∷
    row (read "") (0 ∷ 0 ∷ 0 ∷ []) ∷
    -- zeros before the point stay, be there a fraction or not
    row (read "100") (0 ∷ 100 ∷ 0 ∷ []) ∷
    row (read "10.0") (0 ∷ 10 ∷ 0 ∷ []) ∷
    row (read "100.0") (0 ∷ 100 ∷ 0 ∷ []) ∷
    row (read "100.500") (0 ∷ 1_005 ∷ 1 ∷ []) ∷
    -- a zero with another digit behind it stays
    row (read "1.001") (0 ∷ 1_001 ∷ 3 ∷ []) ∷
    row (read "1.010") (0 ∷ 101 ∷ 2 ∷ []) ∷
    row (read "0.0500") (0 ∷ 5 ∷ 2 ∷ []) ∷
    []

pub left : Agree left_table
unfolding computing
left =
    (refl, (refl, (refl, (refl, (refl, (refl, (refl, (refl, (refl, (refl, (refl, (refl, (refl, (refl, (refl, (refl, (refl, (refl, (refl, (refl, tt))))))))))))))))))))

-- What is a number and what is none is as it was.
abbrev digits_table : List Row
digits_table =
    -- nine digits at most, zeros counted: nine and ten, on both sides of the point, behind it and before it
    row (read "1.50000000") (0 ∷ 15 ∷ 1 ∷ []) ∷
    row (read "1.500000000") [] ∷
    row (read "0.00000000") (0 ∷ 0 ∷ 0 ∷ []) ∷
    row (read "0.000000000") [] ∷
    row (read ".000000000") (0 ∷ 0 ∷ 0 ∷ []) ∷
    row (read ".0000000000") [] ∷
    row (read "100000000.") (0 ∷ 100_000_000 ∷ 0 ∷ []) ∷
    row (read "100000000.0") [] ∷
    -- no digit; a second point; another character
    row (read ".") [] ∷
    row (read "-.") [] ∷
    row (read "1.5.0") [] ∷
    row (read "1.0.0") [] ∷
    row (read "1.0x") [] ∷
    row (read "1.0-") [] ∷
    []

pub all_digits : Agree digits_table
unfolding computing
all_digits =
    (refl, (refl, (refl, (refl, (refl, (refl, (refl, (refl, (refl, (refl, (refl, (refl, (refl, (refl, tt))))))))))))))

-- THE RECORDS. Document 01's deck with zeros past the places of every number, in free form and in columns.
abbrev pub zeroed : List ℕ
zeroed =
    bytes "ID POND\n" ++
    bytes "*FREE\n" ++
    bytes "IT 60.0,,,4.00\n" ++
    bytes "KK UP\n" ++
    bytes "BA 1.500\n" ++
    bytes "PI 0.50000,0.30000,0.10000\n" ++
    bytes "LU 0.500000,0.10000,0.000\n" ++
    bytes "UI 10.000,4.000\n" ++
    bytes "KK RIV\n" ++
    bytes "RM 1.0,1.000,0.2000\n" ++
    bytes "KK SIDE\n" ++
    bytes "QI 1.000,2.000,2.000,1.000\n" ++
    bytes "KK OUT\n" ++
    bytes "HC 2.0\n" ++
    bytes "ZZ\n"

abbrev pub zeroed_columns : List ℕ
zeroed_columns =
    bytes "ID POND\n" ++
    bytes "IT  60.0                    4.00\n" ++
    bytes "KK UP\n" ++
    bytes "BA 1.500\n" ++
    bytes "PI.50000 0.30000 0.10000\n" ++
    bytes "LU.50000 0.10000   0.000\n" ++
    bytes "UI10.000   4.000\n" ++
    bytes "KK RIV\n" ++
    bytes "RM   1.0   1.000  0.2000\n" ++
    bytes "KK SIDE\n" ++
    bytes "QI 1.000   2.000   2.000   1.000\n" ++
    bytes "KK OUT\n" ++
    bytes "HC   2.0\n" ++
    bytes "ZZ\n"

-- What it is worked to: the values under every record, areas and hydrographs.
abbrev result : Block → (area : ℕ) → (flow : List ℕ) → Result
result block area flow = record { block = block; held = record { area = area; flow = flow } }

abbrev up : Block
up =
    with_card BA (Given (150 ∷ []))
    (with_card PI (Given (5_000 ∷ 3_000 ∷ 1_000 ∷ []))
    (with_card LU (Given (5_000 ∷ 1_000 ∷ 0 ∷ []))
    (with_card UI (Given (1_000 ∷ 400 ∷ [])) (opened (bytes "UP")))))

abbrev pond_done : Worked
pond_done =
    Done (record { minutes = 60; ordinates = 4; ratio = 100; listed = [] })
    ((result up 150 (0 ∷ 120_000_000 ∷ 48_000_000 ∷ 0 ∷ []) ∷
    result (with_card RM (Given (1 ∷ 100 ∷ 20 ∷ [])) (opened (bytes "RIV"))) 150 (0 ∷ 27_692_307 ∷ 82_082_840 ∷ 44_788_348 ∷ []) ∷
    result (with_card QI (Given (100 ∷ 200 ∷ 200 ∷ 100 ∷ [])) (opened (bytes "SIDE"))) 0 (60_000_000 ∷ 120_000_000 ∷ 120_000_000 ∷ 60_000_000 ∷ []) ∷
    result (with_card HC (Given (2 ∷ [])) (opened (bytes "OUT"))) 150 (60_000_000 ∷ 147_692_307 ∷ 202_082_840 ∷ 104_788_348 ∷ []) ∷ []) ∷ [])

pub in_free_form : worked zeroed ≡ pond_done
unfolding computing
in_free_form = refl

pub in-columns : worked zeroed_columns ≡ pond_done
unfolding computing
in-columns = refl

pub as_printed : worked pond ≡ pond_done
unfolding computing
as_printed = refl

-- The records that it lacks, JR, PB and a pond's: a basin and a pond behind it, in as few digits as may be and with zeros past the places.
abbrev pub storm : List ℕ
storm = bytes "*FREE\nIT 60,,,2\nJR PREC,.5,1\nKK A\nBA 1.5\nPB 1\nPI 1,2\nLU .1,.1\nUI 17.1\nKK P\nRS 1,STOR\nSV 0,1\nSQ 0,10\nZZ\n"

abbrev pub zeroed_storm : List ℕ
zeroed_storm =
    bytes "*FREE\nIT 60.0,,,2.0\nJR PREC,0.500,1.0000\n" ++
    bytes "KK A\nBA 1.500\nPB 1.00000\nPI 1.00000,2.00000\nLU 0.10000,0.10000,0.000\nUI 17.100\n" ++
    bytes "KK P\nRS 1.0,STOR,0.0\nSV 0.000,1.000\nSQ .000,10.000\nZZ\n"

abbrev wet : Block
wet =
    with_card BA (Given (150 ∷ []))
    (with_card PB (Given (10_000 ∷ []))
    (with_card PI (Given (10_000 ∷ 20_000 ∷ []))
    (with_card LU (Given (1_000 ∷ 1_000 ∷ 0 ∷ []))
    (with_card UI (Given (1_710 ∷ [])) (opened (bytes "A"))))))

abbrev lake : Block
lake = with_card RS (Given (1 ∷ 0x53_54_4F_52 ∷ 0 ∷ [])) (with_card SV (Given (0 ∷ 100 ∷ [])) (with_card SQ (Given (0 ∷ 1_000 ∷ [])) (opened (bytes "P"))))

abbrev storm_done : Worked
storm_done =
    Done (record { minutes = 60; ordinates = 2; ratio = 100; listed = 50 ∷ 100 ∷ [] })
    ((result wet 150 (0 ∷ 239_400_000 ∷ []) ∷ result lake 150 (0 ∷ 70_000_000 ∷ []) ∷ []) ∷
    (result wet 150 (136_800_000 ∷ 581_400_000 ∷ []) ∷ result lake 150 (0 ∷ 210_000_000 ∷ []) ∷ []) ∷ [])

pub storm_with_zeros : worked zeroed_storm ≡ storm_done
unfolding computing
storm_with_zeros = refl

pub storm_without : worked storm ≡ storm_done
unfolding computing
storm_without = refl

-- WHAT IS REFUSED STILL, and what is just within its limits. Decks with these fields on IT, on line 2; with these ratios on line 3; with these values for rain, or for an inflow.
abbrev timed : String → List ℕ
timed fields = bytes "*FREE\nIT " ++ bytes fields ++ bytes "\nKK A\nQI 7\nZZ\n"

abbrev rated : String → List ℕ
rated ratios = bytes "*FREE\nIT 60,,,1\nJR PREC," ++ bytes ratios ++ bytes "\nKK A\nQI 7\nZZ\n"

abbrev basin : String → List ℕ
basin values = bytes "*FREE\nIT 60,,,1\nKK A\nBA 1\nPI " ++ bytes values ++ bytes "\nLU\nUI\nZZ\n"

abbrev inflow : String → List ℕ
inflow values = bytes "*FREE\nIT 60,,,3\nKK A\nQI " ++ bytes values ++ bytes "\nZZ\n"

-- The values that the first block has under a record.
abbrev values_in : Item → Worked → List ℕ
values_in item (Stopped number line) = []
values_in item (Done τ rss) = values_of (card_of item (block_at 1 rss))

-- With this record in a block, on line 4; and in columns, on line 3.
abbrev carded : String → List ℕ
carded line = bytes "*FREE\nIT 60,,,4\nKK A\n" ++ bytes line

abbrev columned : String → List ℕ
columned line = bytes "IT  60.0                    4.00\nKK A\n" ++ bytes line

-- Their refusals.
abbrev refused_on_it : String → List ℕ
refused_on_it fields = refusal_in (worked (timed fields))

abbrev refused_on_jr : String → List ℕ
refused_on_jr ratios = refusal_in (worked (rated ratios))

abbrev refused_on : String → List ℕ
refused_on line = refusal_in (worked (carded line))

-- 6: a digit past the places that is no zero, be there zeros before it or behind it.
abbrev six_table : List Row
six_table =
    row (refused_on_it "60.5,,,4") (6 ∷ 2 ∷ []) ∷
    row (refused_on_it "60.50,,,4") (6 ∷ 2 ∷ []) ∷
    row (refused_on_it "60.01,,,4") (6 ∷ 2 ∷ []) ∷
    row (refused_on_it "60,,,4.5") (6 ∷ 2 ∷ []) ∷
    row (refused_on_jr "0.125") (6 ∷ 3 ∷ []) ∷
    row (refused_on_jr "1,0.1250") (6 ∷ 3 ∷ []) ∷
    row (refused_on "BA 1.5010") (6 ∷ 4 ∷ []) ∷
    row (refused_on "PI 1,0.000010") (6 ∷ 4 ∷ []) ∷
    row (refused_on "LU 0.00001") (6 ∷ 4 ∷ []) ∷
    row (refused_on "LU 0,0.000010") (6 ∷ 4 ∷ []) ∷
    row (refused_on "LU 0,0,0.001") (6 ∷ 4 ∷ []) ∷
    row (refused_on "UI 1.501") (6 ∷ 4 ∷ []) ∷
    row (refused_on "UI 1.5010") (6 ∷ 4 ∷ []) ∷
    row (refused_on "QI 1,1.001") (6 ∷ 4 ∷ []) ∷
    row (refused_on "HC 2.5") (6 ∷ 4 ∷ []) ∷
    row (refused_on "RM 1.5,1,0") (6 ∷ 4 ∷ []) ∷
    row (refused_on "RM 1,1.0010,0") (6 ∷ 4 ∷ []) ∷
    row (refused_on "RM 1,1,0.201") (6 ∷ 4 ∷ []) ∷
    row (refused_on "PB 1.000010") (6 ∷ 4 ∷ []) ∷
    row (refused_on "RS 1.5,STOR") (6 ∷ 4 ∷ []) ∷
    row (refused_on "RS 1,STOR,0.50") (6 ∷ 4 ∷ []) ∷
    row (refused_on "SV 0,1.0010") (6 ∷ 4 ∷ []) ∷
    row (refused_on "SQ 0,1.001") (6 ∷ 4 ∷ []) ∷
    []

pub six : Agree six_table
unfolding computing
six =
    (refl, (refl, (refl, (refl, (refl, (refl, (refl, (refl, (refl, (refl, (refl, (refl, (refl, (refl, (refl, (refl, (refl, (refl, (refl, (refl, (refl, (refl, (refl, tt)))))))))))))))))))))))

-- 7 looks at the value: over the limits, whatever zeros are behind it.
abbrev seven_table : List Row
seven_table =
    row (refused_on_it "1441.0,,,4") (7 ∷ 2 ∷ []) ∷
    row (refused_on_it "60,,,301.0") (7 ∷ 2 ∷ []) ∷
    row (refused_on_it "60,,,0.0") (7 ∷ 2 ∷ []) ∷
    row (refused_on_jr "0.000") (7 ∷ 3 ∷ []) ∷
    row (refused_on_jr "1,10.000") (7 ∷ 3 ∷ []) ∷
    row (refused_on "BA 0.000") (7 ∷ 4 ∷ []) ∷
    row (refused_on "BA 10000.000") (7 ∷ 4 ∷ []) ∷
    row (refused_on "PI 20.00010") (7 ∷ 4 ∷ []) ∷
    row (refused_on "LU 20.00010") (7 ∷ 4 ∷ []) ∷
    row (refused_on "LU 0,20.00010") (7 ∷ 4 ∷ []) ∷
    row (refused_on "LU 0,0,0.01") (7 ∷ 4 ∷ []) ∷
    row (refused_on "UI 100000.000") (7 ∷ 4 ∷ []) ∷
    row (refused_on "QI 100000.010") (7 ∷ 4 ∷ []) ∷
    row (refused_on "QI -0.10") (7 ∷ 4 ∷ []) ∷
    row (refused_on "HC 6.0") (7 ∷ 4 ∷ []) ∷
    row (refused_on "HC 1.0") (7 ∷ 4 ∷ []) ∷
    row (refused_on "RM 51.0,1,0") (7 ∷ 4 ∷ []) ∷
    row (refused_on "RM 1,24.010,0") (7 ∷ 4 ∷ []) ∷
    row (refused_on "RM 1,1,0.510") (7 ∷ 4 ∷ []) ∷
    row (refused_on "PB 100.00010") (7 ∷ 4 ∷ []) ∷
    row (refused_on "RS 2.0,STOR") (7 ∷ 4 ∷ []) ∷
    row (refused_on "RS 1,STOR,1.0") (7 ∷ 4 ∷ []) ∷
    row (refused_on "SV 100000.000") (7 ∷ 4 ∷ []) ∷
    row (refused_on "SQ 100000.010") (7 ∷ 4 ∷ []) ∷
    []

pub seven : Agree seven_table
unfolding computing
seven =
    (refl, (refl, (refl, (refl, (refl, (refl, (refl, (refl, (refl, (refl, (refl, (refl, (refl, (refl, (refl, (refl, (refl, (refl, (refl, (refl, (refl, (refl, (refl, (refl, tt))))))))))))))))))))))))

-- Beside these: what is just within its limits; 0 with a sign; ten digits, which are 6; and 6 and 7 in columns.
abbrev edges_table : List Row
edges_table =
    row (time_in (worked (timed "1440.0,,,1.0"))) (1_440 ∷ 1 ∷ []) ∷
    row (time_in (worked (rated "0.010,9.990"))) (60 ∷ 1 ∷ 1 ∷ 999 ∷ []) ∷
    row (values_in PI (worked (basin "20.00000"))) (200_000 ∷ []) ∷
    row (values_in QI (worked (inflow "100000.000,-0.0,-.00"))) (10_000_000 ∷ 0 ∷ 0 ∷ []) ∷
    row (refused_on_it "60.00000000,,,4") (6 ∷ 2 ∷ []) ∷
    row (refused_on "UI 1.500000000") (6 ∷ 4 ∷ []) ∷
    row (refused_on "LU 0,0,0.000000000") (6 ∷ 4 ∷ []) ∷
    row (refusal_in (worked (bytes "IT  60.5                       4"))) (6 ∷ 1 ∷ []) ∷
    row (refusal_in (worked (bytes "IT1441.0                       4"))) (7 ∷ 1 ∷ []) ∷
    row (refusal_in (worked (columned "UI 1.500  1.5010"))) (6 ∷ 3 ∷ []) ∷
    row (refusal_in (worked (columned "QI 1.000   -0.10"))) (7 ∷ 3 ∷ []) ∷
    []

pub edges : Agree edges_table
unfolding computing
edges =
    (refl, (refl, (refl, (refl, (refl, (refl, (refl, (refl, (refl, (refl, (refl, tt)))))))))))
