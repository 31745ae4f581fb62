-- `routing::route` meets its contract. The steps that are left make of the ordinates now what all the steps make of those at entry.
use Prim.Native.Nat.{◌-◌}
use mathlib.Core.Path.{◌≡◌}
use Rattle.sequences.specs.Bounds.{AllUpTo}
use Rattle.meaning.specs.Water.{flow_limit, stepped_times, routed_of}
use Rattle.routing.proofs.route.Given as goal

abbrev pub invariant-loop : goal.invariant-loop
invariant-loop l = AllUpTo flow_limit l.q × (stepped_times (l.n - l.counter) l.w.a l.w.b l.w.c l.q ≡ routed_of l.n l.m l.k l.x l.initial.q)
