-- Two outcomes that meet a contract of this crate, as its `ensures` line has it, are equal: no two answers mean the same.
use mathlib.Core.Path.{◌≡◌, refl, sym, ap, ◌∙◌}
use Rattle.sequences.specs.OneOutcome.{Once}
use Rattle.std.specs.Prelude.{ℕ, Result, Ok, Err}
use Rattle.meaning.specs.Numbers as meaning
use Rattle.amounts.specs.declared.Fault.{Fault}
use Rattle.amounts.specs.declared.Fault.TheVariants.{Malformed, Negative}
use Rattle.amounts.specs.Values.{value_is}
use Rattle.amounts.proofs.read_value.Kinds as read-value
use Rattle.amounts.proofs.read_value.Reads as read-value-says

-- The answer that means a value.
abbrev answer_of : meaning.Value → Result ℕ Fault
answer_of meaning.Malformed = Err Malformed
answer_of meaning.Negative = Err Negative
answer_of (meaning.Units v) = Ok v

answer_back : (x : Result ℕ Fault) → answer_of (value_is x) ≡ x
answer_back (Ok v) = refl
answer_back (Err Malformed) = refl
answer_back (Err Negative) = refl

value_told : (x y : Result ℕ Fault) → value_is x ≡ value_is y → x ≡ y
value_told x y h = sym (answer_back x) ∙ ap answer_of h ∙ answer_back y

pub one_value : Once read-value.ps read-value.r read-value-says.Post (λ κs x y e f. x ≡ y)
one_value κs a x y e f p q = value_told x y (cc)
