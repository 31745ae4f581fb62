-- What was noted, and what the records that are left are refused for, together are what the file is refused for.
use Rattle.std.proofs.Common.{length, ◌≡◌}
use Rattle.meaning.specs.Words.{first}
use Rattle.meaning.specs.Moving.{records_in}
use Rattle.forms.specs.Fault.{fault_is}
use Rattle.moving.proofs.find_fault.Given as goal

abbrev pub invariant-loop-record : goal.invariant-loop-record
invariant-loop-record g l = first (g.D.Direction.faults (records_in g.D.Direction.SIZE l.rest)) (fault_is l.found) ≡ g.D.Direction.faults (records_in g.D.Direction.SIZE l.file)

abbrev pub decreases-loop-record : goal.decreases-loop-record
decreases-loop-record g l = length l.rest
