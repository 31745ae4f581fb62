-- `pond::pass_on` meets its contract. The first ordinates are outflows, and behind them stand the inflows of the pools still to come, whose outflows are to be put
-- there. Whether a pool is above the last row is asked of those that were and of those to come.
use Prim.Native.Nat.{ℕ, ◌≤◌, ◌*◌}
use mathlib.Core.Path.{◌≡◌}
use mathlib.Core.Bool.{Bool, ◌||◌}
use mathlib.Core.List.{List, ◌++◌}
use lib.ListN.{take, drop}
use Rattle.sequences.specs.Bounds.{AllUpTo}
use Rattle.meaning.specs.Water.{flow_limit}
use Rattle.meaning.specs.Pool.{rows_of}
use Rattle.pond.specs.declared.Span.{Span}
use Rattle.pond.specs.Spans.{SpanAt}
use Rattle.pond.specs.Turns.{pool_of, outflows_after, above_after}
use Rattle.pond.proofs.pass_on.Given as goal

-- the last of the i is a pool at W w with inflow x and outflow o, and s is a span of the table
pub record Inv (m : ℕ) (svs sqs : List ℕ) (first : ℕ) (q₀ q : List ℕ) (w x o : ℕ) (over : Bool) (s : Span) (i : ℕ) : Type 0 where
  pub flows : AllUpTo flow_limit q
  pub in_up : x ≤ flow_limit
  pub low : w ≤ 17_280_000_000_000_000 * i
  pub held : 2 * m * o ≤ w
  pub span : SpanAt m svs sqs s
  pub done : take i q ++ outflows_after m (rows_of svs sqs) (pool_of w x o) (drop i q) ≡ outflows_after m (rows_of svs sqs) (pool_of 0 first 0) q₀
  pub above : (over || above_after m (rows_of svs sqs) (pool_of w x o) (drop i q)) ≡ above_after m (rows_of svs sqs) (pool_of 0 first 0) q₀

abbrev pub invariant-loop-flow : goal.invariant-loop-flow
invariant-loop-flow l = Inv l.table.minutes l.table.svs.now l.table.sqs.now l.first l.initial.q l.q l.w l.old_in l.old_out l.over l.s l.flow-index
