-- A digit below ten, or a letter.
use mathlib.Core.Path.{refl}
use Rattle.sequences.specs.Choices.{taken, passed}
use borrow.Author.Tests.{lt-ltb, le-ltb}
use Rattle.hexes.proofs.hex_digit.Goals as goal

pub returns-then-d-lt10 : goal.returns-then-d-lt10
returns-then-d-lt10 c = taken _ (lt-ltb c.args.d 10 c.if-d-lt10.true) refl

pub returns-else-d-lt10 : goal.returns-else-d-lt10
returns-else-d-lt10 c = passed _ (le-ltb c.args.d 10 c.if-d-lt10.false) refl
