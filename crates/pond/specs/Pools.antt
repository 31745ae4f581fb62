-- The pools of a hydrograph, ordinate by ordinate.
--     pool_in                      the pool at an ordinate, of which the first is 0
--     next-pool                   each comes of the one before by one interval
--     pool-inflow, pool_outflow   their inflows are the hydrograph's, and their outflows the pond's
--     pools_held                  2M times the outflow is at most W, so that W - M·outflow is a true difference
--     pools_limit                 at ordinate k W is at most k times 17,280,000,000,000,000: at most 2 to the power 63 within 300 ordinates
use Rattle.std.specs.Prelude.{ℕ, zero, suc, ◌+◌, ◌*◌, ◌≤◌, ◌<◌, ◌≡◌, refl, false, List, [], ◌∷◌, length, get_or}
use Rattle.std.proofs.Common.{zero-le, mul-zero, arith}
use Rattle.std.proofs.Math.Path.{sym}
use Rattle.std.proofs.Math.ListN.{get_or-map}
use Rattle.sequences.specs.Bounds.{AllUpTo}
use Rattle.meaning.specs.Water.{flow_limit}
use Rattle.meaning.specs.Pool.{PoolRow, rows_of, rules_break, Pool, pool_start, w_after, pool_after, pools_from, pools_of, ponded_of}
use Rattle.pond.specs.Tables.{PondTable, ruled}
use Rattle.pond.specs.Outflows.{outflow_under}
use Rattle.pond.specs.Limits.{w-after_limit}

abbrev pub pool_in : List Pool → ℕ → Pool
pool_in pools k = get_or pools k (pool_start 0)

module _ (m : ℕ) (rows : List PoolRow) where
  from_first : (pool : Pool) (xs : List ℕ) → pool_in (pools_from m rows pool xs) 0 ≡ pool
  from_first pool [] = refl
  from_first pool (x ∷ xs) = refl

  from_next : (pool : Pool) (xs : List ℕ) (k : ℕ) → k < length xs
      → pool_in (pools_from m rows pool xs) (suc k) ≡ pool_after m rows (pool_in (pools_from m rows pool xs) k) (get_or xs k 0)
  from_next pool [] k h = absurd (omega arith)
  from_next pool (x ∷ xs) zero h = from_first (pool_after m rows pool x) xs
  from_next pool (x ∷ xs) (suc k) h = from_next (pool_after m rows pool x) xs k (omega arith)

  pub next-pool : (xs : List ℕ) (k : ℕ) → suc k < length xs
      → pool_in (pools_of m rows xs) (suc k) ≡ pool_after m rows (pool_in (pools_of m rows xs) k) (get_or xs (suc k) 0)
  next-pool [] k h = absurd (omega arith)
  next-pool (x ∷ xs) k h = from_next (pool_start x) xs k (omega arith)

  from_inflow : (pool : Pool) (xs : List ℕ) (k : ℕ) → (pool_in (pools_from m rows pool xs) k).inflow ≡ get_or (pool.inflow ∷ xs) k 0
  from_inflow pool [] zero = refl
  from_inflow pool [] (suc k) = refl
  from_inflow pool (x ∷ xs) zero = refl
  from_inflow pool (x ∷ xs) (suc k) = from_inflow (pool_after m rows pool x) xs k

  pub pool-inflow : (xs : List ℕ) (k : ℕ) → (pool_in (pools_of m rows xs) k).inflow ≡ get_or xs k 0
  pool-inflow [] k = refl
  pool-inflow (x ∷ xs) k = from_inflow (pool_start x) xs k

  pub pool_outflow : (xs : List ℕ) (k : ℕ) → (pool_in (pools_of m rows xs) k).outflow ≡ get_or (ponded_of m rows xs) k 0
  unfolding ponded_of
  pool_outflow xs k = sym (get_or-map (λ (pool : Pool). pool.outflow) (pools_of m rows xs) k (pool_start 0))

  module _ (e : rules_break m rows ≡ false) where
    from_held : (pool : Pool) (xs : List ℕ) → 2 * m * pool.outflow ≤ pool.w → (k : ℕ)
        → 2 * m * (pool_in (pools_from m rows pool xs) k).outflow ≤ (pool_in (pools_from m rows pool xs) k).w
    from_held pool [] h zero = h
    from_held pool [] h (suc k) = omega (arith, mul-zero (2 * m))
    from_held pool (x ∷ xs) h zero = h
    from_held pool (x ∷ xs) h (suc k) = from_held (pool_after m rows pool x) xs (outflow_under m rows e (w_after m pool x)) k

    pub pools_held : (xs : List ℕ) (k : ℕ) → 2 * m * (pool_in (pools_of m rows xs) k).outflow ≤ (pool_in (pools_of m rows xs) k).w
    pools_held [] k = omega (arith, mul-zero (2 * m))
    pools_held (x ∷ xs) k = from_held (pool_start x) xs (omega (arith, mul-zero (2 * m))) k

    module _ (minutes : m ≤ 1_440) where
      from_limit : (n : ℕ) (pool : Pool) (xs : List ℕ) → pool.w ≤ 17_280_000_000_000_000 * n → pool.inflow ≤ flow_limit → 2 * m * pool.outflow ≤ pool.w
          → AllUpTo flow_limit xs → (k : ℕ) → (pool_in (pools_from m rows pool xs) k).w ≤ 17_280_000_000_000_000 * (n + k)
      from_limit n pool [] low up held f zero = omega arith
      from_limit n pool [] low up held f (suc k) = zero-le
      from_limit n pool (x ∷ xs) low up held f zero = omega arith
      from_limit n pool (x ∷ xs) low up held f (suc k) =
          let grown = w-after_limit m pool x (record { minutes = minutes; old_up = up; new_up = f 0; held = held }) in
          let on = from_limit (suc n) (pool_after m rows pool x) xs (omega arith) (f 0) (outflow_under m rows e (w_after m pool x)) (λ (j : ℕ). f (suc j)) k in
          omega arith

pub pools_limit : (m : ℕ) (svs sqs xs : List ℕ) → PondTable m svs sqs → AllUpTo flow_limit xs → (k : ℕ)
    → (pool_in (pools_of m (rows_of svs sqs) xs) k).w ≤ 17_280_000_000_000_000 * k
pools_limit m svs sqs [] t f k = zero-le
pools_limit m svs sqs (x ∷ xs) t f k =
    omega
    (arith, from_limit m (rows_of svs sqs) (ruled m svs sqs t) t.minutes 0 (pool_start x) xs (omega arith) (f 0) (omega (arith, mul-zero (2 * m))) (λ (j : ℕ). f (suc j)) k)
