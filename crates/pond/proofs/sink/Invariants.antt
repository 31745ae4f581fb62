-- `pond::sink` meets its contract: W is below all rows that were left, and never below the first, whose W is 0.
use Rattle.pond.specs.Searches.{Left}
use Rattle.pond.proofs.sink.Given as goal

abbrev pub invariant-loop-k : goal.invariant-loop-k
invariant-loop-k l = Left l.ws l.row l.w l.k

abbrev pub decreases-loop-k : goal.decreases-loop-k
decreases-loop-k l = l.k
