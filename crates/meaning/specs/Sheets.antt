-- Document 02, CR 5, in figures: shares, columns and their sums, whole sheets as they are printed, and every answer in a sheet's place. Tables, by computation.
use Rattle.std.specs.Prelude.{ℕ, ◌-◌, ◌≡◌, refl, List, [], ◌∷◌, ◌++◌, take, replicate}
use Rattle.meaning.specs.Words.{bytes}
use Rattle.meaning.specs.Water.{list_from}
use Rattle.meaning.specs.Run.{Worked, Stopped, Done, worked}
use Rattle.meaning.specs.Sheet.{sheet_of, brings, column_sums, inch_millionths, cfs_millionths, six_places, sheet}
use Rattle.meaning.specs.Computing.{computing}
use Rattle.meaning.specs.Pond.{pond, Row, row, Agree, time_under, block_at, flow_under, rain_under, loss_under, excess_under}

-- A basin between an inflow and a confluence, under two ratios. Its third interval is dry, its second unit ordinate is 0, and the last intervals' shares are cut at
-- the sixth ordinate.
abbrev creek : List ℕ
creek =
    bytes "*FREE\n" ++
    bytes "IT 15,,,6\n" ++
    bytes "JR PREC,0.37,1.25\n" ++
    bytes "KK EAST\n" ++
    bytes "QI 1\n" ++
    bytes "KK WEST\n" ++
    bytes "BA 1\n" ++
    bytes "PB 0.5875\n" ++
    bytes "PI 4,3,,2,1\n" ++
    bytes "LU 0.02,0.02\n" ++
    bytes "UI 2.14,0,10.19,7.67\n" ++
    bytes "KK OUT\n" ++
    bytes "HC 2\n" ++
    bytes "ZZ\n"

-- A deck of one basin over two intervals, with these lines for its rain and its unit ordinates.
abbrev basin : List ℕ → List ℕ
basin lines = bytes "*FREE\nIT 60,,,2\nKK A\nBA 1\nLU 0.50\n" ++ lines ++ bytes "ZZ\n"

-- What each interval brings to an ordinate, and the sums of the columns: of a block, by its place from 1, under the ratio at a place. The ordinate counts from 1 too.
abbrev column_under : (j k i : ℕ) → Worked → List ℕ
column_under j k i (Stopped number line) = []
column_under j k i (Done τ rss) = list_from (brings (sheet_of (time_under j τ) (block_at k rss)) (i - 1)) 0 τ.ordinates

abbrev sums_under : (j k : ℕ) → Worked → List ℕ
sums_under j k (Stopped number line) = []
sums_under j k (Done τ rss) = column_sums (sheet_of (time_under j τ) (block_at k rss))

-- From the rain to the sums, in units.
abbrev columns_table : List Row
columns_table =
    -- 0.37 of 352,500 depth units, by the parts 4, 3, 0, 2 and 1 of 10; the initial loss is 12,000 and the uniform one 3,000 an interval
    row (rain_under 1 2 (worked creek)) (52_170 ∷ 39_127 ∷ 0 ∷ 26_085 ∷ 13_043 ∷ 0 ∷ []) ∷
    row (loss_under 1 2 (worked creek)) (15_000 ∷ 3_000 ∷ 0 ∷ 3_000 ∷ 3_000 ∷ 0 ∷ []) ∷
    row (excess_under 1 2 (worked creek)) (37_170 ∷ 36_127 ∷ 0 ∷ 23_085 ∷ 10_043 ∷ 0 ∷ []) ∷
    -- one share, two and three in a column: 767 times the first excess, 1,019 times the second, none of the dry interval, 214 times the fourth
    row (column_under 1 2 1 (worked creek)) (7_954_380 ∷ 0 ∷ 0 ∷ 0 ∷ 0 ∷ 0 ∷ []) ∷
    row (column_under 1 2 4 (worked creek)) (28_509_390 ∷ 36_813_413 ∷ 0 ∷ 4_940_190 ∷ 0 ∷ 0 ∷ []) ∷
    row (column_under 1 2 5 (worked creek)) (0 ∷ 27_709_409 ∷ 0 ∷ 0 ∷ 2_149_202 ∷ 0 ∷ []) ∷
    -- the sums under both ratios; they are the ordinates
    row (sums_under 1 2 (worked creek)) (7_954_380 ∷ 7_731_178 ∷ 37_876_230 ∷ 70_262_993 ∷ 29_858_611 ∷ 23_523_615 ∷ []) ∷
    row (sums_under 2 2 (worked creek)) (34_507_500 ∷ 27_646_018 ∷ 164_313_750 ∷ 273_537_053 ∷ 107_873_911 ∷ 86_742_375 ∷ []) ∷
    row (sums_under 1 2 (worked creek)) (flow_under 1 2 (worked creek)) ∷
    row (sums_under 2 2 (worked creek)) (flow_under 2 2 (worked creek)) ∷
    row (sums_under 1 1 (worked pond)) (flow_under 1 1 (worked pond)) ∷
    []

pub columns : Agree columns_table
unfolding computing
columns =
    (refl, (refl, (refl, (refl, (refl, (refl, (refl, (refl, (refl, (refl, (refl, tt)))))))))))

-- On paper: half up, of ten sixths and of sixtieths; six places, whatever the number.
abbrev places_table : List Row
places_table =
    row (inch_millionths 0 ∷ inch_millionths 1 ∷ inch_millionths 2 ∷ inch_millionths 3 ∷ []) (0 ∷ 2 ∷ 3 ∷ 5 ∷ []) ∷
    row (cfs_millionths 29 ∷ cfs_millionths 30 ∷ cfs_millionths 60 ∷ cfs_millionths 89 ∷ cfs_millionths 90 ∷ []) (0 ∷ 1 ∷ 1 ∷ 1 ∷ 2 ∷ []) ∷
    row (six_places 7) (bytes "0.000007") ∷
    row (six_places 12_345_678) (bytes "12.345678") ∷
    row (six_places 100_000_000_000) (bytes "100000.000000") ∷
    []

pub places : Agree places_table
unfolding computing
places = (refl, (refl, (refl, (refl, (refl, tt)))))

-- The sheet of the pond's basin.
pub pond-sheet : sheet pond 1 0 ≡
    bytes "units,1.00,UP\n" ++
    bytes "interval,rain,loss,excess,1,2,3,4\n" ++
    bytes "2,180000,60000,120000,,120000000,48000000,\n" ++
    bytes "sum,,,,0,120000000,48000000,0\n" ++
    bytes "inches and cfs,1.00,UP\n" ++
    bytes "interval,rain,loss,excess,1,2,3,4\n" ++
    bytes "2,0.300000,0.100000,0.200000,,2.000000,0.800000,\n" ++
    bytes "sum,,,,0.000000,2.000000,0.800000,0.000000\n"
unfolding computing
pond-sheet = refl

-- Which ratio a sheet says, and is made under: the named one, by 0 the last.
abbrev titles_table : List Row
titles_table =
    row (take 16 (sheet creek 2 1)) (bytes "units,0.37,WEST\n") ∷
    row (take 16 (sheet creek 2 2)) (bytes "units,1.25,WEST\n") ∷
    row (take 16 (sheet creek 2 0)) (bytes "units,1.25,WEST\n") ∷
    []

pub titles : Agree titles_table
unfolding computing
titles = (refl, (refl, (refl, tt)))

-- The creek's under 0.37. Just half is rounded up (37,876,230 units are 631,270.5 millionths), as more is (58 sixtieths, 31); less is not (29, 2). Of the depths 39,127
-- goes up and 13,043 down. A sum is rounded once: that of the fourth column ends in 50, though its shares end in 57, 57 and 37.
pub first_ratio : sheet creek 2 1 ≡
    bytes "units,0.37,WEST\n" ++
    bytes "interval,rain,loss,excess,1,2,3,4,5,6\n" ++
    bytes "1,52170,15000,37170,7954380,0,37876230,28509390,,\n" ++
    bytes "2,39127,3000,36127,,7731178,0,36813413,27709409,\n" ++
    bytes "4,26085,3000,23085,,,,4940190,0,23523615\n" ++
    bytes "5,13043,3000,10043,,,,,2149202,0\n" ++
    bytes "sum,,,,7954380,7731178,37876230,70262993,29858611,23523615\n" ++
    bytes "inches and cfs,0.37,WEST\n" ++
    bytes "interval,rain,loss,excess,1,2,3,4,5,6\n" ++
    bytes "1,0.086950,0.025000,0.061950,0.132573,0.000000,0.631271,0.475157,,\n" ++
    bytes "2,0.065212,0.005000,0.060212,,0.128853,0.000000,0.613557,0.461823,\n" ++
    bytes "4,0.043475,0.005000,0.038475,,,,0.082337,0.000000,0.392060\n" ++
    bytes "5,0.021738,0.005000,0.016738,,,,,0.035820,0.000000\n" ++
    bytes "sum,,,,0.132573,0.128853,0.631271,1.171050,0.497644,0.392060\n"
unfolding computing
first_ratio = refl

-- And under 1.25, the last.
pub second_ratio : sheet creek 2 2 ≡
    bytes "units,1.25,WEST\n" ++
    bytes "interval,rain,loss,excess,1,2,3,4,5,6\n" ++
    bytes "1,176250,15000,161250,34507500,0,164313750,123678750,,\n" ++
    bytes "2,132187,3000,129187,,27646018,0,131641553,99086429,\n" ++
    bytes "4,88125,3000,85125,,,,18216750,0,86742375\n" ++
    bytes "5,44063,3000,41063,,,,,8787482,0\n" ++
    bytes "sum,,,,34507500,27646018,164313750,273537053,107873911,86742375\n" ++
    bytes "inches and cfs,1.25,WEST\n" ++
    bytes "interval,rain,loss,excess,1,2,3,4,5,6\n" ++
    bytes "1,0.293750,0.025000,0.268750,0.575125,0.000000,2.738563,2.061313,,\n" ++
    bytes "2,0.220312,0.005000,0.215312,,0.460767,0.000000,2.194026,1.651440,\n" ++
    bytes "4,0.146875,0.005000,0.141875,,,,0.303613,0.000000,1.445706\n" ++
    bytes "5,0.073438,0.005000,0.068438,,,,,0.146458,0.000000\n" ++
    bytes "sum,,,,0.575125,0.460767,2.738563,4.558951,1.797899,1.445706\n"
unfolding computing
second_ratio = refl

pub last_ratio : sheet creek 2 0 ≡ sheet creek 2 2
unfolding computing
last_ratio = refl

-- A sheet without rows, since all rain is lost; rows without shares, since there is no unit ordinate; the last block named by 0.
pub no_rows : sheet (basin (bytes "PI 0.20,0.30\nUI 7\n")) 1 1 ≡
    bytes "units,1.00,A\n" ++
    bytes "interval,rain,loss,excess,1,2\n" ++
    bytes "sum,,,,0,0\n" ++
    bytes "inches and cfs,1.00,A\n" ++
    bytes "interval,rain,loss,excess,1,2\n" ++
    bytes "sum,,,,0.000000,0.000000\n"
unfolding computing
no_rows = refl

pub no_shares : sheet (basin (bytes "PI 0.20,0.40\nUI\n")) 0 0 ≡
    bytes "units,1.00,A\n" ++
    bytes "interval,rain,loss,excess,1,2\n" ++
    bytes "2,240000,180000,60000,,\n" ++
    bytes "sum,,,,0,0\n" ++
    bytes "inches and cfs,1.00,A\n" ++
    bytes "interval,rain,loss,excess,1,2\n" ++
    bytes "2,0.400000,0.300000,0.100000,,\n" ++
    bytes "sum,,,,0.000000,0.000000\n"
unfolding computing
no_shares = refl

-- What stands in a sheet's place.
abbrev instead_table : List Row
instead_table =
    -- the kind of a block without a sheet: a reach, an inflow, and the last one, a confluence
    row (sheet pond 2 0) (bytes "NO SHEET 4\n") ∷
    row (sheet pond 3 0) (bytes "NO SHEET 2\n") ∷
    row (sheet pond 0 0) (bytes "NO SHEET 3\n") ∷
    row (sheet creek 0 1) (bytes "NO SHEET 3\n") ∷
    -- 17: a fifth block of four, a second ratio without JR, a third of two, of a block without a sheet too
    row (sheet pond 5 0) (bytes "REFUSED 17 0\n") ∷
    row (sheet pond 1 2) (bytes "REFUSED 17 0\n") ∷
    row (sheet creek 2 3) (bytes "REFUSED 17 0\n") ∷
    row (sheet creek 1 3) (bytes "REFUSED 17 0\n") ∷
    -- a refused deck has its own line, whatever block is named: 16 without ZZ, 5 at a second BA; 4 in a deck of the most bytes that one may have,
    -- and 2 with one byte more
    row (sheet (bytes "*FREE\nIT 60,,,2\nKK A\nQI 1\n") 9 9) (bytes "REFUSED 16 0\n") ∷
    row (sheet (basin (bytes "BA 1\n")) 1 1) (bytes "REFUSED 5 6\n") ∷
    row (sheet (bytes "X\n" ++ replicate 59_998 10) 1 1) (bytes "REFUSED 4 1\n") ∷
    row (sheet (bytes "X\n" ++ replicate 59_999 10) 1 1) (bytes "REFUSED 2 0\n") ∷
    []

pub instead : Agree instead_table
unfolding computing
instead =
    (refl, (refl, (refl, (refl, (refl, (refl, (refl, (refl, (refl, (refl, (refl, (refl, tt))))))))))))
