-- Two outcomes that meet the contract of this crate's public function, as its `ensures` line has it, are equal.
use mathlib.Core.Path.{◌≡◌}
use Rattle.sequences.specs.OneOutcome.{Once}
use Rattle.lines.proofs.line_at.Kinds as line_at_lem
use Rattle.lines.proofs.line_at.Reads as line-at-says

pub one_line_at : Once line_at_lem.ps line_at_lem.r line-at-says.Post (λ κs x y e f. x ≡ y)
one_line_at κs a x y e f p q = cc
