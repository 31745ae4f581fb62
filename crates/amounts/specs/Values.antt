-- What the value of a field means.
use Rattle.meaning.specs.Numbers as meaning
use Rattle.std.specs.Prelude.{ℕ, Result, Ok, Err}
use Rattle.amounts.specs.declared.Fault.{Fault}
use Rattle.amounts.specs.declared.Fault.TheVariants.{Malformed, Negative}

abbrev pub value_is : Result ℕ Fault → meaning.Value
value_is (Ok v) = meaning.Units v
value_is (Err Malformed) = meaning.Malformed
value_is (Err Negative) = meaning.Negative
