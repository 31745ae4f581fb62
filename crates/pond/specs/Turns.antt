-- The loop over the ordinates behind the first, of a pool that stands at W with an inflow and an outflow.
--     pool_of, pools_after            a pool, and the pools behind it
--     outflows_after, above_after     what flows out there, and whether any is above the last row
--     ponded_none                   no ordinate; ponded_first, above_first: the first one
--     outflow_turn, above_turn      an ordinate more
use Rattle.std.specs.Prelude.{ℕ, suc, ◌+◌, ◌<◌, ◌≡◌, refl, Bool, true, false, ◌||◌, length, get_or, set, take, drop}
use Rattle.std.proofs.Common.{zero-le, ap, le_refl, add-one, arith, drop-cons, drop-set-lt}
use mathlib.Core.List.{List, [], ◌∷◌, ◌++◌}
use borrow.Author.Tests.{le-ltb}
use Rattle.sequences.specs.Overwriting.{overwrite_one}
use Rattle.meaning.specs.Words.{◌<?◌}
use Rattle.meaning.specs.Pool.{PoolRow, outflow_at, Pool, pool_start, w_after, pool_after, pools_from, outflows_of, ponded_of, last_w, any_above, overtopped}

abbrev pub pool_of : (w inflow outflow : ℕ) → Pool
pool_of w inflow outflow = record { w = w; inflow = inflow; outflow = outflow }

abbrev pub pools_after : (m : ℕ) → List PoolRow → Pool → List ℕ → List Pool
pools_after m rows pool [] = []
pools_after m rows pool (inflow ∷ inflows) = pool_after m rows pool inflow ∷ pools_after m rows (pool_after m rows pool inflow) inflows

abbrev pub outflows_after : (m : ℕ) → List PoolRow → Pool → List ℕ → List ℕ
outflows_after m rows pool inflows = outflows_of (pools_after m rows pool inflows)

abbrev pub above_after : (m : ℕ) → List PoolRow → Pool → List ℕ → Bool
above_after m rows pool inflows = any_above (last_w m rows) (pools_after m rows pool inflows)

pub pools-after : (m : ℕ) (rows : List PoolRow) (pool : Pool) (xs : List ℕ) → pools_from m rows pool xs ≡ pool ∷ pools_after m rows pool xs
pools-after m rows pool [] = refl
pools-after m rows pool (x ∷ xs) = ap (λ (pools : List Pool). pool ∷ pools) (pools-after m rows (pool_after m rows pool x) xs)

or_turn : (t s r : Bool) → (t || s || r) ≡ (s || (t || r))
or_turn true true r = refl
or_turn true false r = refl
or_turn false s r = refl

module _ (m : ℕ) (rows : List PoolRow) where
  pub ponded_none : (xs : List ℕ) → length xs ≡ 0 → (xs ≡ ponded_of m rows xs) × (false ≡ overtopped m rows xs)
  unfolding ponded_of overtopped
  ponded_none [] h = (refl, refl)
  ponded_none (x ∷ xs) h = absurd (omega arith)

  -- the first outflow is v, the first inflow x
  pub ponded_first : (xs : List ℕ) (v x : ℕ) → 0 < length xs → v ≡ 0 → x ≡ get_or xs 0 0
      → take 1 (set xs 0 v) ++ outflows_after m rows (pool_of 0 x 0) (drop 1 (set xs 0 v)) ≡ ponded_of m rows xs
  unfolding ponded_of
  ponded_first [] v x h p q = absurd (omega arith)
  ponded_first (y ∷ ys) v x h p q = rw (p, q, pools-after m rows (pool_start y) ys)

  pub above_first : (xs : List ℕ) (v x : ℕ) → 0 < length xs → x ≡ get_or xs 0 0 → above_after m rows (pool_of 0 x 0) (drop 1 (set xs 0 v)) ≡ overtopped m rows xs
  unfolding overtopped
  above_first [] v x h q = absurd (omega arith)
  above_first (y ∷ ys) v x h q = rw (q, pools-after m rows (pool_start y) ys, le-ltb (last_w m rows) 0 zero-le)

  -- the outflows from the first on, and whether any pool is above: `behind` is what comes in behind the first
  pub ponded_by_first : (xs behind : List ℕ) → 0 < length xs → behind ≡ drop 1 xs
      → ponded_of m rows xs ≡ 0 ∷ outflows_after m rows (pool_of 0 (get_or xs 0 0) 0) behind
  unfolding ponded_of
  ponded_by_first [] behind some e = absurd (omega arith)
  ponded_by_first (x ∷ xs) behind some e = rw (e, pools-after m rows (pool_start x) xs)

  pub above_by_first : (xs behind : List ℕ) → 0 < length xs → behind ≡ drop 1 xs
      → overtopped m rows xs ≡ above_after m rows (pool_of 0 (get_or xs 0 0) 0) behind
  unfolding overtopped
  above_by_first [] behind some e = absurd (omega arith)
  above_by_first (x ∷ xs) behind some e = rw (e, pools-after m rows (pool_start x) xs, le-ltb (last_w m rows) 0 zero-le)

  -- w', x' and o' are the pool's at ordinate i, and v is what is put there
  module _ (q : List ℕ) (i w x o w' x' o' v : ℕ) (h : i < length q) (pw : w' ≡ w_after m (pool_of w x o) (get_or q i 0)) (px : x' ≡ get_or q i 0) (po : o' ≡ outflow_at m rows w') where
    pub outflow_turn : v ≡ o'
        → take (i + 1) (set q i v) ++ outflows_after m rows (pool_of w' x' o') (drop (i + 1) (set q i v)) ≡ take i q ++ outflows_after m rows (pool_of w x o) (drop i q)
    outflow_turn pv = overwrite_one (outflows_after m rows (pool_of w x o)) (outflows_after m rows (pool_of w' x' o')) q i v h (rw (pv, po, px, pw))

    pub above_turn : (over over' : Bool) → over' ≡ ((last_w m rows <? w') || over)
        → (over' || above_after m rows (pool_of w' x' o') (drop (i + 1) (set q i v))) ≡ (over || above_after m rows (pool_of w x o) (drop i q))
    above_turn over over' e =
        let rest : drop (i + 1) (set q i v) ≡ drop (suc i) q = rw (add-one i) (drop-set-lt (suc i) q i v (le_refl (suc i))) in
        rw (rest, drop-cons q i 0 h, e, po, px, pw)
        (or_turn (last_w m rows <? w_after m (pool_of w x o) (get_or q i 0)) over
        (above_after m rows (pool_after m rows (pool_of w x o) (get_or q i 0)) (drop (suc i) q)))
