-- Zeros more at the end of a fraction change nothing, as long as nine digits are not passed: 1.5 and 1.500 are one number.
--     zero_more     one zero
--     zeros_more    any number of them
use Rattle.std.specs.Prelude.{ℕ, zero, suc, ◌+◌, ◌≤◌, ◌≡◌, Bool, true, ◌&&◌, length, replicate}
use Rattle.std.proofs.Math.Path.{refl}
use Rattle.std.proofs.Common.{sym, ◌∙◌, ap, arith, length-append}
use Rattle.std.proofs.Math.Bool.{and-true}
use mathlib.Core.List.{List, [], ◌∷◌, ◌++◌, append-nil, append_assoc}
use borrow.Author.Tests.{le-leb}
use Rattle.meaning.specs.Words.{when◌then◌else◌}
use Rattle.meaning.specs.Fields.{trim_end}
use Rattle.meaning.specs.Numbers.{NoNumber, Decimal, is_digit, is_zero, before_point, behind_point, all_digits, read_on, fraction_left, decimal_of}
use Rattle.sequences.specs.Choices.{both_hold}
use Rattle.sequences.specs.Runs.{test_tells}
use Rattle.sequences.specs.Trimming.{trim_pass}

-- digits, the point, and what stands behind it
module _ (rest : List ℕ) where
  before-point : (whole : List ℕ) → all_digits whole ≡ true → before_point (whole ++ (0x2E ∷ rest)) ≡ whole
  unfolding before_point all_digits when◌then◌else◌
  before-point [] h = refl
  before-point (d ∷ ds) h =
      let both = both_hold (is_digit d) (all_digits ds) h in
      rw (test_tells is_digit d 0x2E both.0 refl) (ap (λ (l : List ℕ). d ∷ l) (before-point ds both.1))

  behind-point : (whole : List ℕ) → all_digits whole ≡ true → behind_point (whole ++ (0x2E ∷ rest)) ≡ rest
  unfolding behind_point all_digits when◌then◌else◌
  behind-point [] h = refl
  behind-point (d ∷ ds) h =
      let both = both_hold (is_digit d) (all_digits ds) h in
      rw (test_tells is_digit d 0x2E both.0 refl) (behind-point ds both.1)

digits-zero : (l : List ℕ) → all_digits (l ++ (0x30 ∷ [])) ≡ all_digits l
unfolding all_digits
digits-zero [] = refl
digits-zero (d ∷ ds) = ap (λ (t : Bool). is_digit d && t) (digits-zero ds)

module _ (minus : Bool) (whole : List ℕ) (digits : all_digits whole ≡ true) where
  -- a number with a point, by its two parts
  abbrev pointed : List ℕ → List ℕ
  pointed fraction = whole ++ (0x2E ∷ fraction)

  by_parts : (fraction : List ℕ) → 1 ≤ length (whole ++ fraction) → length (whole ++ fraction) ≤ 9
      → decimal_of minus (pointed fraction)
      ≡ (when all_digits (whole ++ fraction) then Decimal minus (read_on 0 (whole ++ trim_end is_zero fraction)) (length (trim_end is_zero fraction)) else NoNumber)
  unfolding decimal_of fraction_left
  by_parts fraction some few = rw (before-point fraction whole digits, behind-point fraction whole digits, le-leb 1 _ some, le-leb _ 9 few, and-true, and-true)

  one_longer : (fraction : List ℕ) → length (whole ++ (fraction ++ (0x30 ∷ []))) ≡ length (whole ++ fraction) + 1
  one_longer fraction = ap length (sym (append_assoc whole fraction (0x30 ∷ []))) ∙ length-append (whole ++ fraction) (0x30 ∷ [])

  pub zero_more : (fraction : List ℕ) → 1 ≤ length (whole ++ fraction) → length (whole ++ fraction) ≤ 8
      → decimal_of minus (pointed (fraction ++ (0x30 ∷ []))) ≡ decimal_of minus (pointed fraction)
  zero_more fraction some few =
      let joined : whole ++ (fraction ++ (0x30 ∷ [])) ≡ (whole ++ fraction) ++ (0x30 ∷ []) = sym (append_assoc whole fraction (0x30 ∷ [])) in
      let longer : length (whole ++ (fraction ++ (0x30 ∷ []))) ≡ length (whole ++ fraction) + 1 = one_longer fraction in
      by_parts (fraction ++ (0x30 ∷ [])) (omega arith) (omega arith)
      ∙ rw (joined, digits-zero, trim_pass is_zero fraction 0x30 refl) (sym (by_parts fraction some (omega arith)))

  pub zeros_more : (z : ℕ) (fraction : List ℕ) → 1 ≤ length (whole ++ fraction) → length (whole ++ fraction) + z ≤ 9
      → decimal_of minus (pointed (fraction ++ replicate z 0x30)) ≡ decimal_of minus (pointed fraction)
  zeros_more zero fraction some few = ap (λ (l : List ℕ). decimal_of minus (pointed l)) (append-nil fraction)
  zeros_more (suc z) fraction some few =
      let longer : length (whole ++ (fraction ++ (0x30 ∷ []))) ≡ length (whole ++ fraction) + 1 = one_longer fraction in
      ap (λ (l : List ℕ). decimal_of minus (pointed l)) (sym (append_assoc fraction (0x30 ∷ []) (replicate z 0x30)))
      ∙ zeros_more z (fraction ++ (0x30 ∷ [])) (omega arith) (omega arith) ∙ zero_more fraction some (omega arith)
