-- By the way.
use mathlib.Core.Path.{refl}
use borrow.Author.Tests.{eq-eqb, ne_eqb}
use Rattle.sequences.specs.Choices.{taken, passed}
use Rattle.records.proofs.span_by.Goals as goal

pub returns-then-way-eq0 : goal.returns-then-way-eq0
returns-then-way-eq0 c = taken _ (eq-eqb _ _ c.if-way-eq0.true) refl

pub returns : goal.returns
returns c = passed _ (ne_eqb _ _ c.if-way-eq0.false) refl
