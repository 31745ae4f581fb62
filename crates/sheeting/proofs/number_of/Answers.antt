-- The test is that of the definition.
use mathlib.Core.Path.{refl}
use Rattle.sequences.specs.Choices.{tests, taken, passed}
use Rattle.sheeting.proofs.number_of.Goals as goal

pub returns-then-named-eq0 : goal.returns-then-named-eq0
returns-then-named-eq0 c = taken _ (search tests) refl

pub returns-else-named-eq0 : goal.returns-else-named-eq0
returns-else-named-eq0 c = passed _ (search tests) refl
