-- The records before a place stand in the room before `n`, in their other form; those from it on are left.
use Rattle.std.proofs.Common.{ℕ, length, ◌≡◌, drop}
use Rattle.moving.specs.Loops.{Moving}
use Rattle.moving.proofs.move_records.Given as goal

abbrev pub invariant-loop-record : goal.invariant-loop-record
invariant-loop-record g l = (p : ℕ) × (l.left ≡ drop p l.file) × Moving g.D.Direction.form g.D.Direction.SIZE l.file l.initial.room l.room p l.n

abbrev pub decreases-loop-record : goal.decreases-loop-record
decreases-loop-record g l = length l.left
