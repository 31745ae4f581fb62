-- `runoff::inflow_into` meets its contract: a loop that fills a list with a function of the place.
use Prim.Native.Nat.{ℕ, ◌*◌}
use lib.ListN.{get_or}
use Rattle.sequences.specs.Filling.{Filled}
use Rattle.meaning.specs.Water.{hundredth}
use Rattle.runoff.proofs.inflow_into.Given as goal

abbrev pub invariant-loop-i : goal.invariant-loop-i
invariant-loop-i l = Filled (λ (k : ℕ). get_or l.values k 0 * hundredth) l.initial.q l.q l.i
