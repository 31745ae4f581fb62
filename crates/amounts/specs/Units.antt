-- A number in units of the last place allowed: the ways through the definition, one law for each.
use Rattle.std.specs.Prelude.{ℕ, ◌-◌, ◌*◌, ◌^◌, ◌≤◌, ◌<◌, ◌≡◌, Bool, true, false, ◌&&◌}
use Rattle.std.proofs.Math.Path.{refl}
use Rattle.std.proofs.Math.Bool.{and-false}
use Rattle.std.proofs.Common.{mul-le-mul_left, arith}
use borrow.Author.Tests.{lt-ltb, le-ltb}
use Rattle.meaning.specs.Words.{◌<?◌}
use Rattle.meaning.specs.Numbers.{Decimal, Malformed, Negative, Units, in_units}
use Rattle.sequences.specs.Choices.{taken, passed}
use Rattle.numbers.specs.Digits.{ten_below}

module _ (allowed : ℕ) (minus : Bool) (digits places : ℕ) where
  pub too_many-places : allowed < places → Malformed ≡ in_units allowed (Decimal minus digits places)
  unfolding in_units
  too_many-places h = taken _ (lt-ltb _ _ h) refl

  module _ (few : places ≤ allowed) where
    pub below_zero : minus ≡ true → 0 < digits → Negative ≡ in_units allowed (Decimal minus digits places)
    unfolding in_units
    below_zero m h = passed _ (le-ltb _ _ few) (taken _ (rw (m, lt-ltb 0 digits h)) refl)

    from_zero_on : (minus && (0 <? digits)) ≡ false → Units (digits * 10 ^ (allowed - places)) ≡ in_units allowed (Decimal minus digits places)
    unfolding in_units
    from_zero_on h = passed _ (le-ltb _ _ few) (passed _ h refl)

    pub not_below : minus ≡ false → Units (digits * 10 ^ (allowed - places)) ≡ in_units allowed (Decimal minus digits places)
    not_below m = from_zero_on (rw m)

    pub minus_zero : digits ≤ 0 → Units (digits * 10 ^ (allowed - places)) ≡ in_units allowed (Decimal minus digits places)
    minus_zero h = from_zero_on (rw (le-ltb 0 digits h) (and-false minus))

-- nine digits in units of four places at most
pub units_below : (digits k : ℕ) → digits < 10 ^ 9 → k ≤ 4 → digits * 10 ^ k < 10 ^ 13
units_below digits k h few = omega (arith, mul-le-mul_left digits (ten_below k 4 few))
