-- What the answers mean, and what the runs of digits in a number are.
use Rattle.std.specs.Prelude.{ℕ, ◌+◌, Bool, ◌&&◌, List, take, drop, Option, Some, None}
use Rattle.meaning.specs.Words.{◌≤?◌, when◌then◌else◌}
use Rattle.meaning.specs.Numbers.{is_sign, is_digit, read_on}
use Rattle.meaning.specs.Numbers as meaning
use Rattle.sequences.specs.Runs.{run}
use Rattle.numbers.specs.declared.Digits.{Digits}
use Rattle.numbers.specs.declared.Decimal.{Decimal}

abbrev pub number_is : Option Decimal → meaning.Number
number_is None = meaning.NoNumber
number_is (Some d) = meaning.Decimal d.minus d.digits d.places

unfoldable pub sign_length : ℕ → ℕ
sign_length b = when is_sign b then 1 else 0

-- the digits from `at` on, read on behind a number
abbrev pub digits_from : List ℕ → ℕ → ℕ → Digits
digits_from s at start =
    record {
      end = at + run is_digit (drop at s);
      value = read_on start (take (run is_digit (drop at s)) (drop at s));
    }

-- a number of so many digits: one at least and nine at most
unfoldable pub counted : Bool → ℕ → ℕ → ℕ → meaning.Number
counted minus digits count places = when (1 ≤? count) && (count ≤? 9) then meaning.Decimal minus digits places else meaning.NoNumber
