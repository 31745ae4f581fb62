-- A field without bytes is blank and leaves the count.
use Rattle.std.proofs.Common.{arith, eq-eqb, ne_eqb}
use Rattle.meaning.specs.Words.{when◌then◌else◌}
use Rattle.scanning.proofs.note.Goals as goal
use Rattle.scanning.proofs.note.Goals.{then-length-gt0, else-length-gt0}

pub returns-then-scan : goal.returns-then-scan
unfolding when◌then◌else◌
returns-then-scan c = (
  elim c.if-length-gt0.branch [
    | then-length-gt0 w ↦ rw (ne_eqb c.args.length 0 (λ e. absurd (omega arith))) w.result-is
    | else-length-gt0 w ↦ rw (eq-eqb c.args.length 0 (omega arith)) w.result-is
  ],
  rw c.if-scan.true,
)

pub returns-else-scan : goal.returns-else-scan
unfolding when◌then◌else◌
returns-else-scan c = (
  elim c.if-length-gt0.branch [
    | then-length-gt0 w ↦ rw (ne_eqb c.args.length 0 (λ e. absurd (omega arith))) w.result-is
    | else-length-gt0 w ↦ rw (eq-eqb c.args.length 0 (omega arith)) w.result-is
  ],
  rw c.if-scan.false,
)
