-- What is left to pass falls with each turn, since a turn that passes nothing is the last.
use Rattle.std.proofs.Common.{◌≤◌}
use Rattle.streams.proofs.pass.Given as goal

abbrev pub invariant-loop-left : goal.invariant-loop-left
invariant-loop-left l = l.left ≤ l.size

abbrev pub decreases-loop-left : goal.decreases-loop-left
decreases-loop-left l = l.left
