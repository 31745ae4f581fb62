-- Document 02, CR 2, in figures: what an initial loss that must be filled takes of the rain, beside what the rule of document 01 took. One table, by computation.
use Rattle.std.specs.Prelude.{ℕ, ◌+◌, ◌-◌, min, refl, List, [], ◌∷◌, ◌++◌}
use Rattle.meaning.specs.Words.{bytes, ◌≤?◌, when◌then◌else◌}
use Rattle.meaning.specs.Run.{worked}
use Rattle.meaning.specs.Computing.{computing}
use Rattle.meaning.specs.Pond.{Row, row, Agree, loss_in, excess_in}

-- THE FORMER RULE, of document 01 before the request. No deck is worked by it; it is here for the figures of sheets that were made by it.
-- While the running rain total, this interval included, is at most the initial loss, the interval is lost whole.
-- In any later interval the smaller of the rain and the uniform loss is lost. (before: the running total so far, 0 at the start.)
abbrev pub former_after : (initial uniform before : ℕ) → List ℕ → List ℕ
former_after initial uniform before [] = []
former_after initial uniform before (rain ∷ rains) =
    (rain - (when before + rain ≤? initial then rain else min rain uniform)) ∷ former_after initial uniform (before + rain) rains

abbrev pub former_excess : (initial uniform : ℕ) → List ℕ → List ℕ
former_excess initial uniform rains = former_after initial uniform 0 rains

-- A deck of one basin over four hours, with these lines for its rain and its losses; and one over three days.
abbrev hourly : List ℕ → List ℕ
hourly lines = bytes "*FREE\nIT 60,,,4\nKK A\nBA 1\n" ++ lines ++ bytes "UI 1\nZZ\n"

abbrev daily : List ℕ → List ℕ
daily lines = bytes "*FREE\nIT 1440,,,3\nKK A\nBA 1\n" ++ lines ++ bytes "UI 1\nZZ\n"

-- Depths in depth units: a tenth of an inch is 60,000. LU 0.50,0.10 is document 01's.
abbrev table : List Row
table =
    -- a first interval of 0.60 inch leaves 0, and the next one loses the uniform loss alone; the former rule left 0.50
    row (excess_in 1 (worked (hourly (bytes "PI 0.60,0.30\nLU 0.50,0.10\n")))) (0 ∷ 120_000 ∷ 0 ∷ 0 ∷ []) ∷
    row (former_excess 300_000 60_000 (360_000 ∷ 180_000 ∷ 0 ∷ 0 ∷ [])) (300_000 ∷ 120_000 ∷ 0 ∷ 0 ∷ []) ∷
    -- in the rain of document 01's deck the two agree
    row (former_excess 300_000 60_000 (300_000 ∷ 180_000 ∷ 60_000 ∷ 0 ∷ [])) (0 ∷ 120_000 ∷ 0 ∷ 0 ∷ []) ∷
    -- filled inside the second interval: 0.20 of the initial loss, then the uniform loss of the whole interval
    row (excess_in 1 (worked (hourly (bytes "PI 0.30,0.50\nLU 0.50,0.10\n")))) (0 ∷ 120_000 ∷ 0 ∷ 0 ∷ []) ∷
    row (loss_in 1 (worked (hourly (bytes "PI 0.30,0.50\nLU 0.50,0.10\n")))) (180_000 ∷ 180_000 ∷ 0 ∷ 0 ∷ []) ∷
    -- filled just at the end of the second; never filled
    row (excess_in 1 (worked (hourly (bytes "PI 0.20,0.30,0.40\nLU 0.50,0.10\n")))) (0 ∷ 0 ∷ 180_000 ∷ 0 ∷ []) ∷
    row (excess_in 1 (worked (hourly (bytes "PI 0.10,0.10,0.10,0.10\nLU 0.50,0.10\n")))) (0 ∷ 0 ∷ 0 ∷ 0 ∷ []) ∷
    -- no rain fills nothing, and what is unfilled stays so
    row (excess_in 1 (worked (hourly (bytes "PI 0.30,,0.50\nLU 0.50,0.10\n")))) (0 ∷ 0 ∷ 120_000 ∷ 0 ∷ []) ∷
    -- the initial loss is taken first: all 0.30 fill it, and the next interval finds 0.20 unfilled
    row (excess_in 1 (worked (hourly (bytes "PI 0.30,0.40\nLU 0.50,0.10\n")))) (0 ∷ 60_000 ∷ 0 ∷ 0 ∷ []) ∷
    -- no initial loss; no uniform loss
    row (excess_in 1 (worked (hourly (bytes "PI 0.30,0.05\nLU ,0.10\n")))) (120_000 ∷ 0 ∷ 0 ∷ 0 ∷ []) ∷
    row (excess_in 1 (worked (hourly (bytes "PI 0.30,0.50\nLU 0.50\n")))) (0 ∷ 180_000 ∷ 0 ∷ 0 ∷ []) ∷
    -- the rain is that of the storm's total: 0.30 and 0.60 of 0.90
    row (excess_in 1 (worked (hourly (bytes "PB 0.90\nPI 1,2\nLU 0.50,0.10\n")))) (0 ∷ 180_000 ∷ 0 ∷ 0 ∷ []) ∷
    -- by the day: 3.00 inches on an initial loss of 1.00 leave 1.76, and the former rule left 2.76
    row (excess_in 1 (worked (daily (bytes "PI 3.00,1.00\nLU 1.00,0.01\n")))) (1_056_000 ∷ 456_000 ∷ 0 ∷ []) ∷
    row (former_excess 600_000 144_000 (1_800_000 ∷ 600_000 ∷ 0 ∷ [])) (1_656_000 ∷ 456_000 ∷ 0 ∷ []) ∷
    []

pub losses : Agree table
unfolding computing
losses = (refl, (refl, (refl, (refl, (refl, (refl, (refl, (refl, (refl, (refl, (refl, (refl, (refl, (refl, tt))))))))))))))
