-- Runs of digits: one digit more, where a run stops, and how large a number of so many digits is.
use Prim.Native.Nat.{ℕ, suc, ◌+◌, ◌-◌, ◌*◌, ◌^◌, ◌≤◌, ◌<◌}
use Rattle.std.specs.Prelude.{◌≡◌, true, false, List, [], ◌∷◌, length, take, drop, get_or}
use Rattle.std.proofs.Common.{◌∙◌, ap, add-zero, mul-one, pow-suc, add-one, leb-true}
use Rattle.std.proofs.Math.Nat.{pow-zero, pow-succ', pow-le-pow_right}
use native.Mathlib.Omega.{arith}
use Rattle.std.proofs.Math.Seq.{drop-cons}
use Rattle.meaning.specs.Words.{◌≤?◌}
use Rattle.meaning.specs.Numbers.{is_digit, all_digits, read_on}
use Rattle.sequences.specs.Choices.{both_hold}
use Rattle.sequences.specs.Runs.{run, run_more, run-stop, run_end}
use Rattle.numbers.specs.declared.Digits.{Digits}
use Rattle.numbers.specs.Reading.{digits_from}

pub ten_more : (n : ℕ) → 10 ^ (n + 1) ≡ 10 ^ n * 10
ten_more n = ap (λ (k : ℕ). 10 ^ k) (add-one n) ∙ pow-suc 10 n

pub ten_below : (n m : ℕ) → n ≤ m → 10 ^ n ≤ 10 ^ m
ten_below n m h = pow-le-pow_right (omega arith) h

pub read_on_below : (n k : ℕ) (ds : List ℕ) → all_digits ds ≡ true → n < k → read_on n ds < k * 10 ^ length ds
unfolding read_on all_digits
read_on_below n k [] h b = rw (pow-zero, mul-one) b
read_on_below n k (d ∷ ds) h b =
    let both = both_hold (is_digit d) (all_digits ds) h in
    let low : d ≤ 0x39 = leb-true _ _ (both_hold (0x30 ≤? d) (d ≤? 0x39) both.0).1 in
    let e : k * 10 ^ suc (length ds) ≡ 10 * k * 10 ^ length ds = rw pow-succ' (omega arith) in
    rw e (read_on_below (10 * n + (d - 0x30)) (10 * k) ds both.1 (omega arith))

-- a run that ends at `end` reads on to `value`
abbrev pub digits_to : ℕ → ℕ → Digits
digits_to end value = record { end = end; value = value }

module _ (s : List ℕ) (i v : ℕ) where
  pub digits_more : i < length s → is_digit (get_or s i 0) ≡ true → digits_from s i v ≡ digits_from s (i + 1) (10 * v + (get_or s i 0 - 0x30))
  unfolding read_on
  digits_more h t =
      let n = run is_digit (drop (i + 1) s) in
      let e : i + suc n ≡ i + 1 + n = omega arith in
      let w : read_on v (take (suc n) (drop i s)) ≡ read_on (10 * v + (get_or s i 0 - 0x30)) (take n (drop (i + 1) s)) = rw (add-one, drop-cons s i 0 h) in
      rw (run_more is_digit s i h t, e, w)

  pub digits-stop : i < length s → is_digit (get_or s i 0) ≡ false → digits_to i v ≡ digits_from s i v
  unfolding read_on
  digits-stop h t = rw (run-stop is_digit s i h t, add-zero)

  pub digits-end : length s ≤ i → digits_to i v ≡ digits_from s i v
  unfolding read_on
  digits-end h = rw (run_end is_digit s i h, add-zero)
