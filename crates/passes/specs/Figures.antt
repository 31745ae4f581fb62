-- Walks apart, in figures: how many there are, which refusal of them comes first, and what they find. A table for each, by computation.
use Rattle.std.specs.Prelude.{ℕ, ◌-◌, refl, Bool, true, false, List, [], ◌∷◌, ◌++◌}
use Rattle.meaning.specs.Words.{when◌then◌else◌, bytes}
use Rattle.meaning.specs.Run.{Worked, Only, worked_under}
use Rattle.meaning.specs.Computing.{computing}
use Rattle.meaning.specs.Pond.{Row, row, Agree, refusal_in, flow_under}
use Rattle.passes.specs.Apart.{rank_of, comes_first, apart, ratio_count}

-- Two basins of 20,000 and 90,000 cfs, and what follows them: their confluence, which is over the limit, or what else the lines say.
abbrev flood : List ℕ → List ℕ → List ℕ
flood ratios lines =
    bytes "*FREE\nIT 60,,,1\nJR PREC," ++ ratios
    ++ bytes "\nKK A\nBA 1\nPI 1\nLU\nUI 20000\nKK B\nBA 1\nPI 1\nLU\nUI 90000\n" ++ lines

abbrev joined : List ℕ
joined = bytes "KK C\nHC 2\nZZ\n"

-- An inflow that stays held, so that 15 is met at the ZZ, and a basin of 200 cfs into a pond that holds 874,800,000,000 of W: it overtops under the ratio 3.00.
abbrev filling : List ℕ → List ℕ
filling ratios =
    bytes "*FREE\nIT 60,,,2\nJR PREC," ++ ratios
    ++ bytes "\nKK A\nQI 1\nKK B\nBA 1\nPI 1\nLU\nUI 200\nKK C\nRS 1,STOR,0\nSV 0,10\nSQ 0,1\nZZ\n"

abbrev found : List ℕ → Worked
found deck = apart deck (worked_under (Only 0) deck) 1 (ratio_count deck - 1)

abbrev figure : Bool → List ℕ
figure true = 1 ∷ []
figure false = []

abbrev count_table : List Row
count_table =
    -- the ratios in force where the first block opens; 1 where none opens: a refusal, a ZZ, or the deck's end before it
    row (ratio_count (bytes "*FREE\nIT 60,,,1\nJR PREC,1,2,3\nKK A\nZZ\n") ∷ []) (3 ∷ []) ∷
    row (ratio_count (bytes "*FREE\nIT 60,,,1\nKK A\nZZ\n") ∷ []) (1 ∷ []) ∷
    row (ratio_count (bytes "*FREE\nIT 60,,,1\nJR PREC,1,2,3\nQI\nKK A\n") ∷ []) (1 ∷ []) ∷
    row (ratio_count (bytes "*FREE\nIT 60,,,1\nJR PREC,1,2,3\nZZ\n") ∷ []) (1 ∷ []) ∷
    row (ratio_count (bytes "*FREE\nIT 60,,,1\nJR PREC,1,2,3\n") ∷ []) (1 ∷ []) ∷
    []

pub counts : Agree count_table
unfolding computing ratio_count
counts = (refl, (refl, (refl, (refl, (refl, tt)))))

abbrev order_table : List Row
order_table =
    -- the earlier line, on one line the smaller number, and 16 last
    row (figure (comes_first 13 14 13 16)) (1 ∷ []) ∷
    row (figure (comes_first 13 16 13 14)) [] ∷
    row (figure (comes_first 13 14 14 14)) (1 ∷ []) ∷
    row (figure (comes_first 14 14 13 14)) [] ∷
    row (figure (comes_first 13 14 16 0)) (1 ∷ []) ∷
    row (figure (comes_first 16 0 13 14)) [] ∷
    -- on one line 20 before 14 and 15, before 16 too, and of 20 and 13 the first; but an earlier line before it
    row (figure (comes_first 20 14 14 14)) (1 ∷ []) ∷
    row (figure (comes_first 14 14 20 14)) [] ∷
    row (figure (comes_first 20 14 15 14)) (1 ∷ []) ∷
    row (figure (comes_first 15 14 20 14)) [] ∷
    row (figure (comes_first 20 14 16 0)) (1 ∷ []) ∷
    row (figure (comes_first 16 0 20 14)) [] ∷
    row (figure (comes_first 20 14 13 14)) (1 ∷ []) ∷
    row (figure (comes_first 13 14 20 14)) (1 ∷ []) ∷
    row (figure (comes_first 20 16 15 14)) [] ∷
    []

pub order : Agree order_table
unfolding when◌then◌else◌ rank_of comes_first
order = (refl, (refl, (refl, (refl, (refl, (refl, (refl, (refl, (refl, (refl, (refl, (refl, (refl, (refl, (refl, tt)))))))))))))))

abbrev found_table : List Row
found_table =
    -- 13 at the earliest line, whichever walk found it
    row (refusal_in (found (flood (bytes "1.00,3.00") joined))) (13 ∷ 14 ∷ []) ∷
    row (refusal_in (found (flood (bytes "3.00,1.00") joined))) (13 ∷ 14 ∷ []) ∷
    row (refusal_in (found (flood (bytes "3.00,.01") joined))) (13 ∷ 14 ∷ []) ∷
    row (refusal_in (found (flood (bytes ".01,3.00") joined))) (13 ∷ 14 ∷ []) ∷
    -- 15 and 13 on one line; 16 and 13
    row (refusal_in (found (flood (bytes "1.00,3.00") (bytes "ZZ\n")))) (13 ∷ 14 ∷ []) ∷
    row (refusal_in (found (flood (bytes "1.00,3.00") (bytes "KK C\nHC 2\n")))) (13 ∷ 14 ∷ []) ∷
    -- 15 and 20 on one line, whichever walk found it
    row (refusal_in (found (filling (bytes "1.00")))) (15 ∷ 15 ∷ []) ∷
    row (refusal_in (found (filling (bytes "1.00,3.00")))) (20 ∷ 15 ∷ []) ∷
    row (refusal_in (found (filling (bytes "3.00,1.00")))) (20 ∷ 15 ∷ []) ∷
    -- ratio after ratio
    row (refusal_in (found (flood (bytes ".01,.02") joined))) [] ∷
    row (flow_under 1 3 (found (flood (bytes ".01,.02") joined))) (66_000_000_000 ∷ []) ∷
    row (flow_under 2 3 (found (flood (bytes ".01,.02") joined))) (132_000_000_000 ∷ []) ∷
    []

pub finds : Agree found_table
unfolding computing rank_of comes_first ratio_count
finds = (refl, (refl, (refl, (refl, (refl, (refl, (refl, (refl, (refl, (refl, (refl, (refl, tt))))))))))))
