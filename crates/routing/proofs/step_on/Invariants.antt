-- `routing::step_on` meets its contract. Of the ordinates the first are outflows and the rest are still inflows, of which the work left makes the outflows of the step.
use Prim.Native.Nat.{ℕ, ◌≤◌, ◌<◌, ◌+◌}
use mathlib.Core.Path.{◌≡◌}
use mathlib.Core.List.{List, ◌++◌}
use lib.ListN.{take, drop}
use Rattle.sequences.specs.Bounds.{AllUpTo}
use Rattle.meaning.specs.Water.{flow_limit, outflows}
use Rattle.routing.proofs.step_on.Given as goal

-- the last of the i has inflow x, outflow o and remainder r
pub record Inv (a b c first : ℕ) (q₀ q : List ℕ) (x o r i : ℕ) : Type 0 where
  pub in_up : x ≤ flow_limit
  pub out_up : o ≤ flow_limit
  pub remainder_up : r < a + c
  pub flows : AllUpTo flow_limit q
  pub done : take i q ++ outflows a b c x o r (drop i q) ≡ outflows a b c first first 0 q₀

abbrev pub invariant-loop-flow : goal.invariant-loop-flow
invariant-loop-flow l = Inv l.w.a l.w.b l.w.c l.first l.initial.q l.q l.old_in l.old_out l.remainder l.flow-index
