-- A field that had a value by the former reader has the same value now, and no other text is a number than was.
--     kept_value    so, in units of whatever place its field allows
--     same_texts    a text is no number just when it was none
-- The idea: what stands behind the point is what is left of it and z zeros. The former digits are those of now times 10^z, and the former places are z more. Where the
-- field allows the former places, the power of ten that takes the digits to its units is less by just these z.
use Rattle.std.specs.Prelude.{ℕ, zero, suc, ◌+◌, ◌-◌, ◌*◌, ◌^◌, ◌≤◌, ◌≡◌, Bool, ◌&&◌, ◌↔◌, List, [], ◌∷◌, ◌++◌, length, replicate}
use Prim.Native.Char.{code}
use Rattle.std.proofs.Math.Path.{refl}
use Rattle.std.proofs.Common.{sym, ◌∙◌, true≢false, append_assoc, zero-mul, mul_assoc, mul-pos, zero-lt-suc, arith, lt-ltb, le-ltb, ltb-false, length-append, pow-add}
use Rattle.std.proofs.Math.Bool.{true, false}
use Rattle.std.proofs.Math.Nat.{one-le-pow}
use Rattle.std.proofs.lemmas.List.{length-replicate}
use Rattle.sequences.specs.Digits.{read_on-append, read_on-zeros, fraction_split}
use Rattle.meaning.specs.Words.{◌=?◌, ◌≤?◌, ◌<?◌, when◌then◌else◌}
use Rattle.meaning.specs.Numbers.{Number, NoNumber, Decimal, unsigned, before_point, behind_point, all_digits, read_on, fraction_left, decimal_of, number_of, Value, Malformed, Negative, Units, in_units}
use Rattle.meaning.specs.Records.{is_malformed}
use Rattle.former.specs.Reader.{former_decimal, former_number}

-- THE SAME VALUE with z zeros more, where their places are allowed
module _ (d z : ℕ) where
  above_zero : (0 <? d * 10 ^ z) ≡ (0 <? d)
  above_zero = go d
    where
      go : (n : ℕ) → (0 <? n * 10 ^ z) ≡ (0 <? n)
      go zero = rw zero-mul
      go (suc n) = lt-ltb 0 (suc n * 10 ^ z) (mul-pos (zero-lt-suc n) (one-le-pow z 10 (zero-lt-suc 9))) ∙ sym (lt-ltb 0 (suc n) (zero-lt-suc n))

  -- what the zeros take of the power that the units ask for, they bring
  scaled : (allowed p : ℕ) → p + z ≤ allowed → d * 10 ^ (allowed - p) ≡ d * 10 ^ z * 10 ^ (allowed - (p + z))
  scaled allowed p h =
      let e : allowed - p ≡ z + (allowed - (p + z)) = omega arith in
      rw (e, pow-add) (sym (mul_assoc d (10 ^ z) (10 ^ (allowed - (p + z)))))

  same_units : (allowed : ℕ) (minus : Bool) (p : ℕ) → is_malformed (in_units allowed (Decimal minus (d * 10 ^ z) (p + z))) ≡ false
      → in_units allowed (Decimal minus d p) ≡ in_units allowed (Decimal minus (d * 10 ^ z) (p + z))
  unfolding in_units when◌then◌else◌
  same_units allowed minus p = by (allowed <? (p + z)) refl
    where
      value : Value
      value = when minus && (0 <? d * 10 ^ z) then Negative else Units (d * 10 ^ z * 10 ^ (allowed - (p + z)))

      by : (t : Bool) → (allowed <? (p + z)) ≡ t → is_malformed (when t then Malformed else value) ≡ false → in_units allowed (Decimal minus d p) ≡ (when t then Malformed else value)
      by true e h = absurd (true≢false h)
      by false e h =
          let within : p + z ≤ allowed = ltb-false allowed (p + z) e in
          let few : p ≤ allowed = omega arith in
          rw (le-ltb allowed p few, above_zero, scaled allowed p within)

-- THE FORMER DIGITS AND PLACES, by those that are left and the zeros behind them
module _ (s : List ℕ) where
  abbrev left : List ℕ
  left = before_point s ++ fraction_left s

  zeros : ℕ
  zeros = (fraction_split s).0

  split : behind_point s ≡ fraction_left s ++ replicate zeros 0x30
  unfolding zeros
  split = (fraction_split s).1

  former_places : length (behind_point s) ≡ length (fraction_left s) + zeros
  former_places = rw (split, length-append, length-replicate)

  former_digits : read_on 0 (before_point s ++ behind_point s) ≡ read_on 0 left * 10 ^ zeros
  former_digits =
      rw (split, ← append_assoc (before_point s) (fraction_left s) (replicate zeros 0x30), read_on-append 0 left (replicate zeros 0x30))
      (read_on-zeros (read_on 0 left) zeros)

-- A NUMBER, or none, by both, since they ask the same of a text
module _ (minus : Bool) (s : List ℕ) where
  abbrev asked : Bool
  asked = let digits = before_point s ++ behind_point s in all_digits digits && (1 ≤? length digits) && (length digits ≤? 9)

  abbrev before : Number
  before = Decimal minus (read_on 0 (before_point s ++ behind_point s)) (length (behind_point s))

  abbrev now : Number
  now = Decimal minus (read_on 0 (left s)) (length (fraction_left s))

  kept-digits : (allowed : ℕ) → is_malformed (in_units allowed before) ≡ false → in_units allowed now ≡ in_units allowed before
  kept-digits allowed = rw (former_digits s, former_places s) (same_units (read_on 0 (left s)) (zeros s) allowed minus (length (fraction_left s)))

  kept_decimal : (allowed : ℕ) → is_malformed (in_units allowed (former_decimal minus s)) ≡ false → in_units allowed (decimal_of minus s) ≡ in_units allowed (former_decimal minus s)
  unfolding in_units decimal_of former_decimal when◌then◌else◌
  kept_decimal allowed = by asked
    where
      by : (t : Bool) → is_malformed (in_units allowed (when t then before else NoNumber)) ≡ false
          → in_units allowed (when t then now else NoNumber) ≡ in_units allowed (when t then before else NoNumber)
      by true h = kept-digits allowed h
      by false h = absurd (true≢false h)

  same_decimals : (decimal_of minus s ≡ NoNumber) ↔ (former_decimal minus s ≡ NoNumber)
  unfolding decimal_of former_decimal when◌then◌else◌
  same_decimals = by asked
    where
      by : (t : Bool) → ((when t then now else NoNumber) ≡ NoNumber) ↔ ((when t then before else NoNumber) ≡ NoNumber)
      by true = (λ h. cc, λ h. cc)
      by false = (λ h. refl, λ h. refl)

pub kept_value : (allowed : ℕ) (f : List ℕ) → is_malformed (in_units allowed (former_number f)) ≡ false → in_units allowed (number_of f) ≡ in_units allowed (former_number f)
unfolding number_of former_number
kept_value allowed [] h = refl
kept_value allowed (b ∷ s) h = kept_decimal (b =? code "-") (unsigned (b ∷ s)) allowed h

pub same_texts : (f : List ℕ) → (number_of f ≡ NoNumber) ↔ (former_number f ≡ NoNumber)
unfolding number_of former_number
same_texts [] = (λ h. h, λ h. h)
same_texts (b ∷ s) = same_decimals (b =? code "-") (unsigned (b ∷ s))
