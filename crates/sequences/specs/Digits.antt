-- Digits read on behind a number, and the zeros that a fraction ends in.
--     read_on-append     what is read behind some digits is read on behind their number
--     read_on-zeros      z zeros make the number 10^z times as large
--     fraction_split    what stands behind the point is what is left of it, and zeros
use Rattle.std.specs.Prelude.{ℕ, zero, suc, ◌+◌, ◌-◌, ◌*◌, ◌^◌, ◌≡◌, refl, List, [], ◌∷◌, ◌++◌, replicate}
use Rattle.std.proofs.Common.{◌∙◌, pow-suc, arith, eqb-true}
use Prim.Native.Char.{code}
use Rattle.meaning.specs.Numbers.{is_zero, behind_point, read_on, fraction_left}
use Rattle.sequences.specs.Trimming.{trim_split}

pub read_on-append : (n : ℕ) (xs ys : List ℕ) → read_on n (xs ++ ys) ≡ read_on (read_on n xs) ys
unfolding read_on
read_on-append n [] ys = refl
read_on-append n (x ∷ xs) ys = read_on-append (10 * n + (x - code "0")) xs ys

pub read_on-zeros : (n z : ℕ) → read_on n (replicate z 0x30) ≡ n * 10 ^ z
unfolding read_on
read_on-zeros n zero = omega arith
read_on-zeros n (suc z) = read_on-zeros (10 * n + 0) z ∙ rw pow-suc (omega arith)

pub fraction_split : (s : List ℕ) → (z : ℕ) × (behind_point s ≡ fraction_left s ++ replicate z 0x30)
unfolding fraction_left
fraction_split s = trim_split is_zero 0x30 (λ (b : ℕ). eqb-true b 0x30) (behind_point s)
