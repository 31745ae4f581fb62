-- `pond::climb` meets its contract: W is above all rows that were passed, and so the loop ends ahead of the place that no W is above.
use Prim.Native.Nat.{◌-◌}
use lib.ListN.{length}
use Rattle.pond.specs.Searches.{Passed}
use Rattle.pond.proofs.climb.Given as goal

abbrev pub invariant-loop-k : goal.invariant-loop-k
invariant-loop-k l = Passed l.ws l.row l.w l.k

abbrev pub decreases-loop-k : goal.decreases-loop-k
decreases-loop-k l = length l.ws - l.k
