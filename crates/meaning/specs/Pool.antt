-- Document 02, CR 6: ponds, level-pool routing by modified Puls (document 000, 3.6.3).
use Rattle.std.specs.Prelude.{ℕ, ◌+◌, ◌-◌, ◌*◌, ◌/◌, Bool, false, ◌||◌, not, List, [], ◌∷◌, map, length, get_or}
use Rattle.meaning.specs.Words.{◌=?◌, ◌≤?◌, ◌<?◌, when◌then◌else◌}
use Rattle.meaning.specs.Water.{hundredth}

-- A ROW of a pond's table. V is SV in hundredths times 600,000, Q the outflow in flow units.
pub record PoolRow : Type 0 where
  pub v : ℕ
  pub q : ℕ

abbrev pub pool_row : (sv sq : ℕ) → PoolRow
pool_row sv sq = record { v = sv * 600_000; q = sq * hundredth }

-- The rows of what SV and SQ list, pair by pair.
abbrev pub rows_of : (svs sqs : List ℕ) → List PoolRow
rows_of [] sqs = []
rows_of (sv ∷ svs) [] = []
rows_of (sv ∷ svs) (sq ∷ sqs) = pool_row sv sq ∷ rows_of svs sqs

-- W = 1,452·V + M-as-Q.
unfoldable pub w_of : (m : ℕ) → PoolRow → ℕ
w_of m row = 1_452 * row.v + m * row.q

-- THE TABLE'S RULES. Rows start at 0, 0;
abbrev pub starts_elsewhere : PoolRow → Bool
starts_elsewhere row = not (row.v =? 0) || not (row.q =? 0)

-- SV rises strictly, SQ never falls, and 1,452·V is at least M-as-Q: in a row behind another one,
unfoldable pub row_breaks : (m : ℕ) (row next : PoolRow) → Bool
row_breaks m row next = (next.v ≤? row.v) || (next.q <? row.q) || (1_452 * next.v <? m * next.q)

-- and in all rows behind a row.
abbrev pub rows_break : (m : ℕ) → PoolRow → List PoolRow → Bool
rows_break m row [] = false
rows_break m row (next ∷ rows) = row_breaks m row next || rows_break m next rows

abbrev pub rules_break : (m : ℕ) → List PoolRow → Bool
rules_break m [] = false
rules_break m (row ∷ rows) = starts_elsewhere row || rows_break m row rows

-- Refusal 19: a table with fewer than two pairs, unequal counts or a broken rule.
unfoldable pub table_breaks : (m : ℕ) (svs sqs : List ℕ) → Bool
table_breaks m svs sqs = (length (rows_of svs sqs) <? 2) || not (length svs =? length sqs) || rules_break m (rows_of svs sqs)

-- OUTFLOW is interpolated in W between rows, rounded down: between a row and the next one,
unfoldable pub between : (m : ℕ) (row next : PoolRow) (w : ℕ) → ℕ
between m row next w = row.q + (next.q - row.q) * (w - w_of m row) / (w_of m next - w_of m row)

-- and from a row on. (Above the last row, where the deck is refused by 20, it counts as the last row's.)
abbrev pub outflow_from : (m : ℕ) → PoolRow → List PoolRow → (w : ℕ) → ℕ
outflow_from m row [] w = row.q
outflow_from m row (next ∷ rows) w = when w ≤? w_of m next then between m row next w else outflow_from m next rows w

abbrev pub outflow_at : (m : ℕ) → List PoolRow → (w : ℕ) → ℕ
outflow_at m [] w = 0
outflow_at m (row ∷ rows) w = outflow_from m row rows w

-- INTERVAL BY INTERVAL. A pool at an ordinate: its W, the inflow and the outflow.
pub record Pool : Type 0 where
  pub w : ℕ
  pub inflow : ℕ
  pub outflow : ℕ

-- Start W and outflow at 0;
abbrev pub pool_start : (inflow : ℕ) → Pool
pool_start inflow = record { w = 0; inflow = inflow; outflow = 0 }

-- then W grows by M·(old + new inflow) - 2M·old outflow,
unfoldable pub w_after : (m : ℕ) → Pool → (inflow : ℕ) → ℕ
w_after m pool inflow = pool.w + m * (pool.inflow + inflow) - 2 * m * pool.outflow

-- and outflow is interpolated.
abbrev pub pool_after : (m : ℕ) → List PoolRow → Pool → (inflow : ℕ) → Pool
pool_after m rows pool inflow = record { w = w_after m pool inflow; inflow = inflow; outflow = outflow_at m rows (w_after m pool inflow) }

-- The pools at each ordinate of a hydrograph of inflows: from one on, and from the start.
abbrev pub pools_from : (m : ℕ) → List PoolRow → Pool → List ℕ → List Pool
pools_from m rows pool [] = pool ∷ []
pools_from m rows pool (inflow ∷ inflows) = pool ∷ pools_from m rows (pool_after m rows pool inflow) inflows

abbrev pub pools_of : (m : ℕ) → List PoolRow → List ℕ → List Pool
pools_of m rows [] = []
pools_of m rows (inflow ∷ inflows) = pools_from m rows (pool_start inflow) inflows

-- What flows out.
abbrev pub outflows_of : List Pool → List ℕ
outflows_of pools = map (λ (pool : Pool). pool.outflow) pools

unfoldable pub ponded_of : (m : ℕ) → List PoolRow → List ℕ → List ℕ
ponded_of m rows inflows = outflows_of (pools_of m rows inflows)

-- Refusal 20: W above the last row.
abbrev pub last_w : (m : ℕ) → List PoolRow → ℕ
last_w m rows = w_of m (get_or rows (length rows - 1) (pool_row 0 0))

abbrev pub any_above : (top : ℕ) → List Pool → Bool
any_above top [] = false
any_above top (pool ∷ pools) = (top <? pool.w) || any_above top pools

unfoldable pub overtopped : (m : ℕ) → List PoolRow → List ℕ → Bool
overtopped m rows inflows = any_above (last_w m rows) (pools_of m rows inflows)
