-- How large a field's number can be: it has nine digits at most.
use Rattle.std.specs.Prelude.{ℕ, ◌^◌, ◌≤◌, ◌<◌, ◌≡◌, Bool, ◌&&◌, List, [], ◌∷◌, ◌++◌, replicate}
use Rattle.std.proofs.Math.Path.{refl}
use Rattle.std.proofs.Common.{sym, ◌∙◌, ap, append_assoc, arith}
use Rattle.std.proofs.Math.Bool.{true, false}
use borrow.Author.Tests.{leb-true}
use Rattle.std.proofs.Math.ListN.{length, length-append}
use Rattle.meaning.specs.Words.{◌=?◌, ◌≤?◌, when◌then◌else◌}
use Rattle.meaning.specs.Numbers.{Number, NoNumber, Decimal, is_digit, unsigned, before_point, behind_point, all_digits, read_on, fraction_left, decimal_of, number_of}
use Rattle.sequences.specs.Choices.{both_hold}
use Rattle.sequences.specs.Digits.{fraction_split}
use Rattle.numbers.specs.Digits.{ten_below, read_on_below}

-- nine digits at most, and no more places
abbrev pub Small : Number → Type 0
Small NoNumber = Unit {0}
Small (Decimal minus digits places) = (digits < 10 ^ 9) × (places ≤ 9)

digits-front : (xs ys : List ℕ) → all_digits (xs ++ ys) ≡ true → all_digits xs ≡ true
unfolding all_digits
digits-front [] ys h = refl
digits-front (x ∷ xs) ys h =
    let both = both_hold (is_digit x) (all_digits (xs ++ ys)) h in
    rw both.0 (digits-front xs ys both.1)

module _ (minus : Bool) (s : List ℕ) where
  abbrev digits : List ℕ
  digits = before_point s ++ behind_point s

  abbrev left : List ℕ
  left = before_point s ++ fraction_left s

  abbrev zeros : List ℕ
  zeros = replicate (fraction_split s).0 0x30

  -- trailing zeros stand behind the digits that are left
  digits-left : digits ≡ left ++ zeros
  digits-left = ap (λ (l : List ℕ). before_point s ++ l) (fraction_split s).1 ∙ sym (append_assoc (before_point s) (fraction_left s) zeros)

  left_short : length left ≤ length digits
  left_short = omega (arith, ap length digits-left, length-append left zeros)

  decimal_small : Small (decimal_of minus s)
  unfolding decimal_of when◌then◌else◌
  decimal_small = go (all_digits digits && (1 ≤? length digits) && (length digits ≤? 9)) refl
    where
      go : (t : Bool) → (all_digits digits && (1 ≤? length digits) && (length digits ≤? 9)) ≡ t
          → Small (when t then Decimal minus (read_on 0 left) (length (fraction_left s)) else NoNumber)
      go true h =
          let few = both_hold _ _ h in
          let some = both_hold _ _ few.0 in
          let short : length digits ≤ 9 = leb-true _ _ few.1 in
          let nine : length left ≤ 9 = omega (arith, left_short) in
          let ours : all_digits left ≡ true = digits-front left zeros (ap all_digits (sym digits-left) ∙ some.0) in (
            omega (arith, read_on_below 0 1 left ours (omega arith), ten_below (length left) 9 nine),
            omega (arith, length-append (before_point s) (fraction_left s)),
          )
      go false h = tt

pub number_small : (f : List ℕ) → Small (number_of f)
unfolding number_of
number_small [] = (omega arith, omega arith)
number_small (b ∷ s) = decimal_small (b =? 0x2D) (unsigned (b ∷ s))
