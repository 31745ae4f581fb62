-- Each way out is one way through the definition's test.
use mathlib.Core.Path.{refl}
use native.Mathlib.Omega.{arith}
use Rattle.sequences.specs.Choices.{taken, passed, in_range, below_range, above_range}
use Rattle.numbers.specs.Reading.{counted}
use Rattle.numbers.proofs.count_digits.Goals as goal

pub returns-in-1-to-9 : goal.returns-in-1-to-9
unfolding counted
returns-in-1-to-9 c = taken _ (in_range 1 9 c.args.count (omega arith) (omega arith)) refl

pub returns-in_default : goal.returns-in_default
unfolding counted
returns-in_default c = passed _ (below_range 1 9 c.args.count (omega arith)) refl

pub returns-in_default-2 : goal.returns-in_default-2
unfolding counted
returns-in_default-2 c = passed _ (above_range 1 9 c.args.count (omega arith)) refl
