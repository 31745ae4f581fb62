-- What was asked is tested as `moved_as` has it.
use borrow.Author.Tests.{eq-eqb, ne_eqb}
use Rattle.sequences.specs.Choices.{taken, passed}
use borrow.Author.Rules.{rules}
use Rattle.store.proofs.move_file.Goals as goal

pub returns-then-asked-eq1 : goal.returns-then-asked-eq1
returns-then-asked-eq1 c =
    let tested = c in
    taken _ (eq-eqb _ 1 tested.if-asked-eq1.true) c.to_new.ensures

pub returns : goal.returns
returns c =
    let tested = c in
    passed _ (ne_eqb _ 1 tested.if-asked-eq1.false) c.to_old.ensures
