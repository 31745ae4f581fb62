-- After each turn the number is that of the cards from the place reached on.
use mathlib.Core.Path.{◌≡◌}
use Rattle.kinds.specs.Masks.{mask_on}
use Rattle.kinds.proofs.mask_of.Given as goal

abbrev pub invariant-loop-item : goal.invariant-loop-item
invariant-loop-item l = l.mask ≡ mask_on l.cards l.item
