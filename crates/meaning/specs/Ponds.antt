-- Document 02, CR 6, in figures: the water of ponds, worked by hand, the area and the kind, and 20 where a pond runs over. Tables, by computation.
use Rattle.std.specs.Prelude.{ℕ, ◌-◌, ◌≡◌, refl, List, [], ◌∷◌, ◌++◌, map, take, drop}
use Rattle.meaning.specs.Words.{bytes, met}
use Rattle.meaning.specs.Pool.{PoolRow, Pool, rows_of, w_of, outflow_at, pools_of, overtopped}
use Rattle.meaning.specs.Blocks.{pond_rows}
use Rattle.meaning.specs.Run.{Worked, Stopped, Done, worked, Lent, outcome}
use Rattle.meaning.specs.Listing.{listing}
use Rattle.meaning.specs.Sheet.{sheet}
use Rattle.meaning.specs.Computing.{computing}
use Rattle.meaning.specs.Pond.{Row, row, Agree, refusal_in, block_at, flow_in}

-- An inflow and a pond of three rows behind it, over six hours.
abbrev lake : List ℕ
lake = bytes "*FREE\nIT 60,,,6\nKK A\nBA 2.50\nQI 7.20,27,30,10\nKK P\nRS 1,STOR,0\nSV 0,1,3\nSQ 0,10,50\nZZ\n"

-- Decks of an inflow and a pond behind it: IT's fields, QI's values, the lines of the table.
abbrev ponded : (time inflow lines : List ℕ) → List ℕ
ponded time inflow lines = bytes "*FREE\nIT " ++ time ++ bytes "\nKK A\nQI " ++ inflow ++ bytes "\nKK P\nRS 1,STOR\n" ++ lines ++ bytes "ZZ\n"

-- Two inflows; the pond takes the second one, and the first is still held when they are combined.
abbrev beside : List ℕ
beside = bytes "*FREE\nIT 60,,,2\nKK A\nQI 5,5\nKK B\nQI 17.10,17.10\nKK P\nRS 1,STOR\nSV 0,1\nSQ 0,10\nKK C\nHC 2\nZZ\n"

-- Of a block by its place, a pond that takes the block before it: the W of its rows, and its W at each ordinate.
abbrev row_levels_in : ℕ → Worked → List ℕ
row_levels_in k (Stopped number line) = []
row_levels_in k (Done τ rss) = map (w_of τ.minutes) (pond_rows (block_at k rss))

abbrev levels_in : ℕ → Worked → List ℕ
levels_in k (Stopped number line) = []
levels_in k (Done τ rss) = map (λ (pool : Pool). pool.w) (pools_of τ.minutes (pond_rows (block_at k rss)) (flow_in (k - 1) (Done τ rss)))

-- The lake's rows, and its outflow at some W.
abbrev lake_rows : List PoolRow
lake_rows = rows_of (0 ∷ 100 ∷ 300 ∷ []) (0 ∷ 1_000 ∷ 5_000 ∷ [])

abbrev lake_at : List ℕ → List ℕ
lake_at ws = map (outflow_at 60 lake_rows) ws

-- BY HAND, in units. The lake's V are 0, 60,000,000 and 180,000,000, its Q 0, 600,000,000 and 3,000,000,000. W is 0; 87,120,000,000 + 36,000,000,000;
-- 261,360,000,000 + 180,000,000,000. A cfs of inflow is 60,000,000.
-- 1: W 0, outflow 0, though 432,000,000 flow in.
-- 2: W grows by 60·(432,000,000 + 1,620,000,000) = 123,120,000,000 and is that of the second row: outflow is 600,000,000.
-- 3: W grows by 60·(1,620,000,000 + 1,800,000,000) - 120·600,000,000 = 205,200,000,000 - 72,000,000,000 = 133,200,000,000, to 256,320,000,000. The row's outflow
--    and 2,400,000,000·133,200,000,000/318,240,000,000 = 1,004,524,886.88 more. Half up would be one more.
-- 4: W grows by 60·(1,800,000,000 + 600,000,000) - 120·1,604,524,886 = 144,000,000,000 - 192,542,986,320 = -48,542,986,320, to 207,777,013,680. The row's outflow
--    and 2,400,000,000·84,657,013,680/318,240,000,000 = 638,439,017.19 more.
-- 5: W grows by 60·600,000,000 - 120·1,238,439,017 = 36,000,000,000 - 148,612,682,040 = -112,612,682,040, to 95,164,331,640. Below the second row now:
--    600,000,000·95,164,331,640/123,120,000,000 = 463,763,799.42.
-- 6: W grows by - 120·463,763,799 = -55,651,655,880, to 39,512,675,760: 600,000,000·39,512,675,760/123,120,000,000 = 192,556,899.42.
abbrev water_table : List Row
water_table =
    row (row_levels_in 2 (worked lake)) (0 ∷ 123_120_000_000 ∷ 441_360_000_000 ∷ []) ∷
    row (levels_in 2 (worked lake)) (0 ∷ 123_120_000_000 ∷ 256_320_000_000 ∷ 207_777_013_680 ∷ 95_164_331_640 ∷ 39_512_675_760 ∷ []) ∷
    row (flow_in 2 (worked lake)) (0 ∷ 600_000_000 ∷ 1_604_524_886 ∷ 1_238_439_017 ∷ 463_763_799 ∷ 192_556_899 ∷ []) ∷
    -- around a row and at the last one: just below it a unit is lost, on it the outflow is the row's own, and just above it no unit is won
    row (lake_at (0 ∷ 123_119_999_999 ∷ 123_120_000_000 ∷ 123_120_000_001 ∷ [])) (0 ∷ 599_999_999 ∷ 600_000_000 ∷ 600_000_000 ∷ []) ∷
    row (lake_at (441_359_999_999 ∷ 441_360_000_000 ∷ [])) (2_999_999_999 ∷ 3_000_000_000 ∷ []) ∷
    -- no inflow; one ordinate, at which nothing leaves and nothing is refused, whatever flows in
    row (flow_in 2 (worked (ponded (bytes "60,,,3") [] (bytes "SV 0,1\nSQ 0,10\n")))) (0 ∷ 0 ∷ 0 ∷ []) ∷
    row (flow_in 2 (worked (ponded (bytes "60,,,1") (bytes "100000") (bytes "SV 0,1\nSQ 0,10\n")))) (0 ∷ []) ∷
    -- equal outflows: nothing leaves up to the second row, where W is 87,120,000,000. W is 72,000,000,000, then twice that: 56,880,000,000 of the 123,120,000,000
    -- to the next row, and 277,192,982.46
    row (flow_in 2 (worked (ponded (bytes "60,,,3") (bytes "10,10,10") (bytes "SV 0,1,2\nSQ 0,0,10\n")))) (0 ∷ 0 ∷ 277_192_982 ∷ []) ∷
    -- the largest values, by the day: W is 1,440·12,000,000,000,000 of the last row's 17,351,999,128,800,000, and the product is 103,680,000,000,000,000,000,000,000,000
    row (flow_in 2 (worked (ponded (bytes "1440,,,3") (bytes "100000,100000") (bytes "SV 0,99999.99\nSQ 0,100000\n")))) (0 ∷ 5_975_104_034_434 ∷ 3_012_344_681_266 ∷ []) ∷
    -- what was held last flows in: 0 and 10 cfs leave, and 5 cfs of the first are added behind the pond
    row (flow_in 4 (worked beside)) (300_000_000 ∷ 900_000_000 ∷ []) ∷
    []

pub water : Agree water_table
unfolding computing
water = (refl, (refl, (refl, (refl, (refl, (refl, (refl, (refl, (refl, (refl, tt))))))))))

-- A pond of two rows that 17.10 cfs twice fill up to the last one, W being 60·2,052,000,000; and these lines behind it.
abbrev full : (last lines : List ℕ) → List ℕ
full last lines = bytes "*FREE\nIT 60,,,2\nKK A\nQI 17.10," ++ last ++ bytes "\nKK P\nRS 1,STOR\nSV 0,1\nSQ 0,10\n" ++ lines

-- The same behind a basin, under ratios.
abbrev rated : List ℕ → List ℕ
rated ratios = bytes "*FREE\nIT 60,,,2\nJR PREC," ++ ratios ++ bytes "\nKK A\nBA 1.50\nPI 1,1\nLU\nUI 17.10\nKK P\nRS 1,STOR\nSV 0,1\nSQ 0,10\nZZ\n"

abbrev overtopping : List ℕ → ℕ
overtopping inflows = met (overtopped 60 (rows_of (0 ∷ 100 ∷ []) (0 ∷ 1_000 ∷ [])) inflows) 20

abbrev full_table : List Row
full_table =
    -- on the last row its outflow leaves; a hundredth of a cfs more, or a flow unit, is 20, where KK closes the pond as where ZZ does
    row (flow_in 2 (worked (full (bytes "17.10") (bytes "ZZ\n")))) (0 ∷ 600_000_000 ∷ []) ∷
    row (refusal_in (worked (full (bytes "17.11") (bytes "ZZ\n")))) (20 ∷ 9 ∷ []) ∷
    row (refusal_in (worked (full (bytes "17.11") (bytes "KM\nKK C\n")))) (20 ∷ 10 ∷ []) ∷
    row (overtopping (1_026_000_000 ∷ 1_026_000_000 ∷ []) ∷ overtopping (1_026_000_000 ∷ 1_026_000_001 ∷ []) ∷ []) (0 ∷ 20 ∷ []) ∷
    -- above at one ordinate only: it is below again at the next one
    row (overtopping (1_026_000_000 ∷ 1_026_000_001 ∷ 0 ∷ 0 ∷ []) ∷ []) (20 ∷ []) ∷
    -- under one ratio of two, whichever of them it is
    row (refusal_in (worked (rated (bytes "1")))) [] ∷
    row (refusal_in (worked (rated (bytes "1,1.01")))) (20 ∷ 13 ∷ []) ∷
    row (refusal_in (worked (rated (bytes "1.01,1")))) (20 ∷ 13 ∷ []) ∷
    []

pub brimful : Agree full_table
unfolding computing
brimful = (refl, (refl, (refl, (refl, (refl, (refl, (refl, (refl, tt))))))))

-- The area stays and the kind is 5: in the record, in the listing, under each ratio. A pond has no sheet.
abbrev lent : Lent
lent = record { work = 6_000; ordinates = 6; records = 80 }

abbrev kind_table : List Row
kind_table =
    row (take 12 (drop 40 (outcome lake 0 0 lent).records)) (bytes "P     " ++ (5 ∷ 0 ∷ 250 ∷ 0 ∷ 0 ∷ 0 ∷ [])) ∷
    row (listing lake) (bytes "A 2 2.50 30.00 3 4452000000\nP 5 2.50 26.74 3 4099284601\nEND 2\n") ∷
    row (sheet lake 2 0) (bytes "NO SHEET 5\n") ∷
    []

pub kind : Agree kind_table
unfolding computing
kind = (refl, (refl, (refl, tt)))

pub ratio_by_ratio : listing (rated (bytes ".5,1")) ≡
    bytes "RATIO 0.50\n" ++
    bytes "A 1 1.50 8.55 1 1026000000\n" ++
    bytes "P 5 1.50 5.00 2 300000000\n" ++
    bytes "RATIO 1.00\n" ++
    bytes "A 1 1.50 17.10 1 2052000000\n" ++
    bytes "P 5 1.50 10.00 2 600000000\n" ++
    bytes "END 2\n"
unfolding computing
ratio_by_ratio = refl
