-- By whether a block was named.
use mathlib.Core.Path.{refl}
use borrow.Author.Tests.{eq-eqb, ne_eqb}
use Rattle.sequences.specs.Choices.{taken, passed}
use Rattle.turns.proofs.copy_if_last.Goals as goal

pub returns-then-named-eq0 : goal.returns-then-named-eq0
returns-then-named-eq0 c = taken _ (eq-eqb c.args.named 0 c.if-named-eq0.true) c.copy_last.ensures

pub returns-else-named-eq0 : goal.returns-else-named-eq0
returns-else-named-eq0 c = passed _ (ne_eqb c.args.named 0 c.if-named-eq0.false) refl
