-- Two outcomes that meet a contract of this crate, as its `ensures` line has it, are equal.
use mathlib.Core.Path.{◌≡◌, sym, ◌∙◌}
use mathlib.Core.List.{[]}
use Rattle.sequences.specs.OneOutcome.{Once}
use Rattle.kinds.specs.Kinds.{kind_told}
use Rattle.kinds.proofs.kind_of.Kinds as kind-of
use Rattle.kinds.proofs.kind_of.Reads as kind-of-says

pub one_kind_of : Once kind-of.ps kind-of.r kind-of-says.Post (λ κs x y e f. x ≡ y)
one_kind_of κs a x y e f p q = kind_told x y (p [] ∙ sym (q []))
