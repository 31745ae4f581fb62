-- Two outcomes that meet a contract of this crate, as its `ensures` line has it, are equal: no two answers mean the same.
use mathlib.Core.Path.{◌≡◌, refl, sym, ap, ◌∙◌}
use Rattle.meaning.specs.Numbers as meaning
use Rattle.sequences.specs.OneOutcome.{Once}
use Rattle.std.specs.Prelude.{Option, Some, None}
use Rattle.numbers.specs.declared.Decimal.{Decimal}
use Rattle.numbers.specs.Reading.{number_is}
use Rattle.numbers.proofs.read_number.Kinds as read_number
use Rattle.numbers.proofs.read_number.Reads as read-number-says

-- The answer that means a number.
abbrev answer_of : meaning.Number → Option Decimal
answer_of meaning.NoNumber = None
answer_of (meaning.Decimal minus digits places) = Some record { minus = minus; digits = digits; places = places }

answer_back : (x : Option Decimal) → answer_of (number_is x) ≡ x
answer_back None = refl
answer_back (Some d) = refl

number_told : (x y : Option Decimal) → number_is x ≡ number_is y → x ≡ y
number_told x y h = sym (answer_back x) ∙ ap answer_of h ∙ answer_back y

pub one_number : Once read_number.ps read_number.r read-number-says.Post (λ κs x y e f. x ≡ y)
one_number κs a x y e f p q = number_told x y (cc)
