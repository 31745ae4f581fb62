-- The cut of a running sum by the share n of d. A storm's total is cut so, T of S(last), and rain under a ratio, r of 100.
--     cut_rises     the share of a running sum never falls as the sum runs on, so that no piece is below zero
--     sum-cut       the pieces add up to floor(n·S(last)/d); sum-whole: to n itself, where d is S(last)
--     cut_pieces    a piece is made of the element and the running sum that is carried to it
--     cut-dry       where nothing falls nothing is cut, and behind the last that falls nothing either
--     cut_none      the share 0 is nothing, whatever is cut; cut_same: the share d of d is what is cut
--     length_cut    there are as many pieces
--     whole_up      where d is S(last), be it 0 or not, the pieces add up to n at most; cut-whole: and each is at most n
--     cut_up        a piece of x is at most floor(n·x/d) + 1
use Rattle.std.specs.Prelude.{ℕ, zero, suc, ◌+◌, ◌-◌, ◌*◌, ◌/◌, ◌≤◌, ◌<◌, ◌≡◌, refl, List, [], ◌∷◌, ◌++◌, length, replicate}
use Rattle.std.proofs.Common.{zero-le, sym, ap, ◌∙◌, le_trans, mul-le-mul_left, zero-mul, mul-add, add_assoc, div-mul-le_self, le-div_iff_mul-le, div-lt_iff_lt-mul, mul-div_cancel}
use Rattle.std.proofs.Math.Nat.{mul-zero, lt-div-mul-add, div-zero, zero-div, mul-div_right}
use native.Mathlib.Omega.{arith}
use Rattle.meaning.specs.Water.{sum_of, cut_after, cut_of}
use Rattle.sequences.specs.Bounds.{AllUpTo}
use Rattle.sequences.specs.Carrying.{carried, length-carried, carried-dry}

-- Division by one number never falls as what is divided rises.
pub div_rises : (d : ℕ) {a b : ℕ} → a ≤ b → a / d ≤ b / d
div_rises zero {a} h = rw (div-zero a) zero-le
div_rises (suc d) {a} h = let some : 0 < suc d = omega arith in (le-div_iff_mul-le some).1 (le_trans (div-mul-le_self a (suc d)) h)

-- One piece, with so much before it.
abbrev pub piece : (n d before x : ℕ) → ℕ
piece n d before x = n * (before + x) / d - n * before / d

module _ (n d : ℕ) where
  pub cut_rises : (before x : ℕ) → n * before / d ≤ n * (before + x) / d
  cut_rises before x = let more : before ≤ before + x = omega arith in div_rises d (mul-le-mul_left n more)

  sum-after : (before : ℕ) (xs : List ℕ) → n * before / d + sum_of (cut_after n d before xs) ≡ n * (before + sum_of xs) / d
  sum-after before [] = let all : before + 0 ≡ before = omega arith in rw all (omega arith)
  sum-after before (x ∷ xs) = rw (sym (add_assoc before x (sum_of xs))) (omega (arith, sum-after (before + x) xs, cut_rises before x))

  pub sum-cut : (xs : List ℕ) → sum_of (cut_of n d xs) ≡ n * sum_of xs / d
  unfolding cut_of
  sum-cut xs =
      let none : n * 0 / d ≡ 0 = rw mul-zero (zero-div d) in
      let all : 0 + sum_of xs ≡ sum_of xs = omega arith in
      omega (arith, rw all at (sum-after 0 xs))

  cut-carried : (before : ℕ) (xs : List ℕ) → cut_after n d before xs ≡ carried (piece n d) ◌+◌ before xs
  cut-carried before [] = refl
  cut-carried before (x ∷ xs) = ap (λ (l : List ℕ). piece n d before x ∷ l) (cut-carried (before + x) xs)

  pub cut_pieces : (xs : List ℕ) → cut_of n d xs ≡ carried (piece n d) ◌+◌ 0 xs
  unfolding cut_of
  cut_pieces xs = cut-carried 0 xs

  no_piece : (before : ℕ) → piece n d before 0 ≡ 0
  no_piece before = let same : before + 0 ≡ before = omega arith in rw same (omega arith)

  pub cut-dry : (xs : List ℕ) (k : ℕ) → cut_of n d (xs ++ replicate k 0) ≡ cut_of n d xs ++ replicate k 0
  cut-dry xs k = rw (cut_pieces (xs ++ replicate k 0), cut_pieces xs) (carried-dry (piece n d) ◌+◌ no_piece 0 xs k)

  pub length_cut : (xs : List ℕ) → length (cut_of n d xs) ≡ length xs
  length_cut xs = rw (cut_pieces xs) (length-carried (piece n d) ◌+◌ 0 xs)

none_after : (d before : ℕ) (xs : List ℕ) → cut_after 0 d before xs ≡ replicate (length xs) 0
none_after d before [] = refl
none_after d before (x ∷ xs) = rw (zero-mul (before + x), zero-mul before, zero-div d, none_after d (before + x) xs)

pub cut_none : (d : ℕ) (xs : List ℕ) → cut_of 0 d xs ≡ replicate (length xs) 0
unfolding cut_of
cut_none d xs = none_after d 0 xs

same_after : (d before : ℕ) (xs : List ℕ) → 0 < d → cut_after d d before xs ≡ xs
same_after d before [] some = refl
same_after d before (x ∷ xs) some =
    let one : before + x - before ≡ x = omega arith in
    rw (mul-div_right (before + x) some, mul-div_right before some, one, same_after d (before + x) xs some)

pub cut_same : (d : ℕ) (xs : List ℕ) → 0 < d → cut_of d d xs ≡ xs
unfolding cut_of
cut_same d xs some = same_after d 0 xs some

one_of_sum : (xs : List ℕ) → AllUpTo (sum_of xs) xs
one_of_sum [] k = zero-le
one_of_sum (x ∷ xs) zero = omega arith
one_of_sum (x ∷ xs) (suc k) = omega (arith, one_of_sum xs k)

pub sum-whole : (n : ℕ) (xs : List ℕ) → 0 < sum_of xs → sum_of (cut_of n (sum_of xs) xs) ≡ n
sum-whole n xs some = sum-cut n (sum_of xs) xs ∙ mul-div_cancel n some

whole-share : (n s : ℕ) → n * s / s ≤ n
whole-share n zero = omega (arith, div-zero (n * 0))
whole-share n (suc s) = let some : 0 < suc s = omega arith in omega (arith, mul-div_cancel n some)

pub whole_up : (n : ℕ) (xs : List ℕ) → sum_of (cut_of n (sum_of xs) xs) ≤ n
whole_up n xs = omega (arith, sum-cut n (sum_of xs) xs, whole-share n (sum_of xs))

pub cut-whole : (n : ℕ) (xs : List ℕ) → AllUpTo n (cut_of n (sum_of xs) xs)
cut-whole n xs k = le_trans (one_of_sum (cut_of n (sum_of xs) xs) k) (whole_up n xs)

-- The share of a sum is at most one more than its two shares together.
piece_up : (n d before x : ℕ) → 0 < d → piece n d before x ≤ n * x / d + 1
piece_up n d before x some =
    let first : n * before < n * before / d * d + d = lt-div-mul-add some in
    let next : n * x < n * x / d * d + d = lt-div-mul-add some in
    let apart : (n * before / d + n * x / d + 2) * d ≡ n * before / d * d + d + (n * x / d * d + d) = omega arith in
    let both : n * (before + x) < (n * before / d + n * x / d + 2) * d = rw (mul-add n before x, apart) (omega arith) in
    omega (arith, (div-lt_iff_lt-mul some).1 both)

up_after : (n d most before : ℕ) (xs : List ℕ) → 0 < d → AllUpTo most xs → AllUpTo (n * most / d + 1) (cut_after n d before xs)
up_after n d most before [] some up k = zero-le
up_after n d most before (x ∷ xs) some up zero = omega (arith, piece_up n d before x some, div_rises d (mul-le-mul_left n (up 0)))
up_after n d most before (x ∷ xs) some up (suc k) = up_after n d most (before + x) xs some (λ (j : ℕ). up (suc j)) k

pub cut_up : (n d most : ℕ) (xs : List ℕ) → 0 < d → AllUpTo most xs → AllUpTo (n * most / d + 1) (cut_of n d xs)
unfolding cut_of
cut_up n d most xs some up = up_after n d most 0 xs some up
