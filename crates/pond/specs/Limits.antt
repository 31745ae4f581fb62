-- What a pond lets out has as many ordinates as what comes in, and none above the last row's Q; that is a flow within the limit, so 13 is never met. And W fits 64 bits.
--     ponded-length                 as many outflows as inflows
--     ponded_last, ponded_within    none above the last row's Q; none above the limit of a flow (row_flow: nor is any row's Q)
--     w_limit, row_limit            W of a row is at most 17,351,999,128,800,000, which is below 2 to the power 54
--     Interval                      what an interval starts from: a pool that holds what it lets out, and inflows within the limit; what they bring has one too (inflow_limit)
--     w-after-whole, w-after_limit  nothing is subtracted below zero, and W grows by what comes in at most
use Rattle.std.specs.Prelude.{ℕ, zero, suc, ◌+◌, ◌-◌, ◌*◌, ◌≤◌, ◌≡◌, refl, false, List, [], ◌∷◌, length, get_or}
use Rattle.std.proofs.Common.{zero-le, ap, le_trans, mul-le-mul, arith}
use Rattle.sequences.specs.Bounds.{AllUpTo}
use Rattle.meaning.specs.Water.{flow_limit}
use Rattle.meaning.specs.Pool.{PoolRow, pool_row, rows_of, w_of, rules_break, Pool, pool_start, w_after, pool_after, pools_from, outflows_of, ponded_of}
use Rattle.pond.specs.Tables.{PondTable, paired, ruled, row_in, row_at, row-at}
use Rattle.pond.specs.Outflows.{last_q, outflow_last}

module _ (m : ℕ) (rows : List PoolRow) where
  from_length : (pool : Pool) (xs : List ℕ) → length (outflows_of (pools_from m rows pool xs)) ≡ suc (length xs)
  from_length pool [] = refl
  from_length pool (x ∷ xs) = ap suc (from_length (pool_after m rows pool x) xs)

pub ponded-length : (m : ℕ) (rows : List PoolRow) (xs : List ℕ) → length (ponded_of m rows xs) ≡ length xs
unfolding ponded_of
ponded-length m rows [] = refl
ponded-length m rows (x ∷ xs) = from_length m rows (pool_start x) xs

from_last : (m : ℕ) (rows : List PoolRow) → rules_break m rows ≡ false → (pool : Pool) (xs : List ℕ) → pool.outflow ≤ last_q rows
    → AllUpTo (last_q rows) (outflows_of (pools_from m rows pool xs))
from_last m rows e pool [] h zero = h
from_last m rows e pool [] h (suc k) = zero-le
from_last m rows e pool (x ∷ xs) h zero = h
from_last m rows e pool (x ∷ xs) h (suc k) = from_last m rows e (pool_after m rows pool x) xs (outflow_last m rows e (w_after m pool x)) k

pub ponded_last : (m : ℕ) (rows : List PoolRow) → rules_break m rows ≡ false → (xs : List ℕ) → AllUpTo (last_q rows) (ponded_of m rows xs)
unfolding ponded_of
ponded_last m rows e [] k = zero-le
ponded_last m rows e (x ∷ xs) k = from_last m rows e (pool_start x) xs zero-le k

pub w_limit : (m sv sq : ℕ) → m ≤ 1_440 → sv ≤ 9_999_999 → sq ≤ 10_000_000 → w_of m (pool_row sv sq) ≤ 17_351_999_128_800_000
unfolding w_of
w_limit m sv sq minutes volume outflow =
    let q : sq * 600_000 ≤ 6_000_000_000_000 = omega arith in
    let flows : m * (sq * 600_000) ≤ 1_440 * 6_000_000_000_000 = mul-le-mul minutes q in
    omega arith

module _ (m : ℕ) (svs sqs : List ℕ) (t : PondTable m svs sqs) where
  pub row_flow : (j : ℕ) → (row_in (rows_of svs sqs) j).q ≤ flow_limit
  row_flow j = rw (row-at svs sqs (paired m svs sqs t) j) (omega (arith, t.outflows_up j))

  pub row_limit : (j : ℕ) → w_of m (row_at svs sqs j) ≤ 17_351_999_128_800_000
  row_limit j = w_limit m (get_or svs j 0) (get_or sqs j 0) t.minutes (t.volumes_up j) (t.outflows_up j)

pub ponded_within : (m : ℕ) (svs sqs xs : List ℕ) → PondTable m svs sqs → AllUpTo flow_limit (ponded_of m (rows_of svs sqs) xs)
ponded_within m svs sqs xs t k =
    let rows = rows_of svs sqs in
    le_trans (ponded_last m rows (ruled m svs sqs t) xs k) (row_flow m svs sqs t (length rows - 1))

pub record Interval (m : ℕ) (pool : Pool) (inflow : ℕ) : Type 0 where
  pub minutes : m ≤ 1_440
  pub old_up : pool.inflow ≤ flow_limit
  pub new_up : inflow ≤ flow_limit
  pub held : 2 * m * pool.outflow ≤ pool.w

module _ (m : ℕ) (pool : Pool) (inflow : ℕ) (i : Interval m pool inflow) where
  pub inflow_limit : m * (pool.inflow + inflow) ≤ 17_280_000_000_000_000
  inflow_limit =
      let both : pool.inflow + inflow ≤ 12_000_000_000_000 = omega (arith, i.old_up, i.new_up) in
      mul-le-mul i.minutes both

  pub w-after-whole : w_after m pool inflow + 2 * m * pool.outflow ≡ pool.w + m * (pool.inflow + inflow)
  unfolding w_after
  w-after-whole = omega (arith, i.held)

  pub w-after_limit : w_after m pool inflow ≤ pool.w + 17_280_000_000_000_000
  w-after_limit = omega (arith, w-after-whole, inflow_limit)
