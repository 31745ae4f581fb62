-- The balance of request 9, for a pond: from any ordinate to any later one the change of W - M·outflow is M times the sum, over the intervals between, of the inflow at both
-- ends less the outflow at both ends. It is said with nothing taken away but M·outflow from W, which is a true difference (pools_held).
--     stored        W - M·outflow; inflow_ends, outflow_ends: an interval's inflow and outflow at both ends
--     balance_one   one interval
--     balance       from ordinate i to ordinate i + n
use Rattle.std.specs.Prelude.{ℕ, zero, suc, ◌+◌, ◌-◌, ◌*◌, ◌<◌, ◌≡◌, false, List, length}
use Rattle.std.proofs.Common.{add-zero, add-suc, arith}
use Rattle.std.proofs.Math.Nat.{mul-add}
use Rattle.meaning.specs.Water.{sum_to}
use Rattle.meaning.specs.Pool.{PoolRow, rules_break, Pool, w_after, pools_of}
use Rattle.pond.specs.Pools.{pool_in, next-pool, pools_held}

abbrev pub stored : (m : ℕ) → Pool → ℕ
stored m pool = pool.w - m * pool.outflow

-- The pool at an ordinate of a hydrograph; and an interval's inflow and outflow at both ends, from ordinate i on.
abbrev pub pool_at : (m : ℕ) (rows : List PoolRow) (xs : List ℕ) (k : ℕ) → Pool
pool_at m rows xs k = pool_in (pools_of m rows xs) k

abbrev pub inflow_ends : (m : ℕ) (rows : List PoolRow) (xs : List ℕ) (i k : ℕ) → ℕ
inflow_ends m rows xs i k = (pool_at m rows xs (i + k)).inflow + (pool_at m rows xs (suc (i + k))).inflow

abbrev pub outflow_ends : (m : ℕ) (rows : List PoolRow) (xs : List ℕ) (i k : ℕ) → ℕ
outflow_ends m rows xs i k = (pool_at m rows xs (i + k)).outflow + (pool_at m rows xs (suc (i + k))).outflow

module _ (m : ℕ) (rows : List PoolRow) (e : rules_break m rows ≡ false) (xs : List ℕ) where
  pub balance_one : (k : ℕ) → suc k < length xs
      → (let old = pool_at m rows xs k in let new = pool_at m rows xs (suc k) in
      stored m new + m * (old.outflow + new.outflow) ≡ stored m old + m * (old.inflow + new.inflow))
  unfolding w_after
  balance_one k h =
      let old = pool_at m rows xs k in
      let new = pool_at m rows xs (suc k) in
      let step = next-pool m rows xs k h in
      let w : new.w ≡ w_after m old new.inflow = rw step in
      let before = pools_held m rows e xs k in
      let after = pools_held m rows e xs (suc k) in
      omega (arith, mul-add m old.outflow new.outflow)

  pub balance : (i n : ℕ) → i + n < length xs
      → stored m (pool_at m rows xs (i + n)) + m * sum_to (outflow_ends m rows xs i) n ≡ stored m (pool_at m rows xs i) + m * sum_to (inflow_ends m rows xs i) n
  balance i zero h = rw (add-zero i) (omega arith)
  balance i (suc n) h =
      let next : suc (i + n) < length xs = omega arith in
      let before : i + n < length xs = omega arith in
      let one = balance_one (i + n) next in
      let all = balance i n before in
      let out = mul-add m (sum_to (outflow_ends m rows xs i) n) (outflow_ends m rows xs i n) in
      let inn = mul-add m (sum_to (inflow_ends m rows xs i) n) (inflow_ends m rows xs i n) in
      rw (add-suc i n) (omega arith)
