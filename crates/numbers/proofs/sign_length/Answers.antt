-- Each way out is one way through the definition's test.
use Rattle.std.proofs.Common.{rules, ⊎_elim}
use mathlib.Core.Path.{◌≡◌, refl}
use Rattle.meaning.specs.Words.{when◌then◌else◌}
use Rattle.sequences.specs.Choices.{tests}
use Rattle.numbers.specs.Reading.{sign_length}
use Rattle.numbers.proofs.sign_length.Goals as goal

pub returns-in-43 : goal.returns-in-43
unfolding sign_length when◌then◌else◌
returns-in-43 c = ⊎_elim (λ (e : c.args.b ≡ 43). rw e refl) (λ (e : c.args.b ≡ 45). rw e refl) c.in-43.is

pub returns-in_default : goal.returns-in_default
unfolding sign_length when◌then◌else◌
returns-in_default c = search (rules, tests)
