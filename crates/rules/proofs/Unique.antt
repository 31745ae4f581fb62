-- Two outcomes that meet a contract of this crate, as its `ensures` line has it, are equal.
use mathlib.Core.Path.{◌≡◌}
use Rattle.sequences.specs.OneOutcome.{Once}
use Rattle.rules.specs.Rules.{one_field}
use Rattle.rules.proofs.read_field.Kinds as read-field
use Rattle.rules.proofs.read_field.Reads as read-field-says

pub one_read-field : Once read-field.ps read-field.r read-field-says.Post (λ κs x y e f. x ≡ y)
one_read-field κs a x y e f p q = one_field _ _ _ x y p q
