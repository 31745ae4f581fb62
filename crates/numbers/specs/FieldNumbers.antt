-- A field's number: a blank field, a field too long to hold one, and the sign in front.
use Rattle.std.specs.Prelude.{ℕ, suc, ◌+◌, ◌≤◌, ◌<◌, ◌≡◌, refl, Bool, true, false, ◌&&◌, List, [], ◌∷◌, ◌++◌, length, drop, get_or}
use Rattle.std.proofs.Common.{sym, ◌∙◌, ap, arith}
use Rattle.std.proofs.Math.Bool.{and-false}
use Rattle.std.proofs.lemmas.Bool.{lt-leb}
use Rattle.meaning.specs.Words.{◌=?◌, ◌≤?◌, when◌then◌else◌}
use Rattle.meaning.specs.Numbers.{NoNumber, Decimal, is_sign, is_point, unsigned, before_point, behind_point, all_digits, decimal_of, number_of}
use Rattle.numbers.specs.Reading.{sign_length}

-- a point takes one byte at most
all_but_one : (s : List ℕ) → length s ≤ length (before_point s ++ behind_point s) + 1
unfolding before_point behind_point when◌then◌else◌
all_but_one [] = omega arith
all_but_one (b ∷ s) = go (is_point b) (all_but_one s)
  where
    go : (t : Bool) → length s ≤ length (before_point s ++ behind_point s) + 1
        → suc (length s) ≤ length ((when t then [] else b ∷ before_point s) ++ (when t then s else behind_point s)) + 1
    go true ih = omega arith
    go false ih = omega arith

long_decimal : (minus : Bool) (s : List ℕ) → 10 < length s → NoNumber ≡ decimal_of minus s
unfolding decimal_of when◌then◌else◌
long_decimal minus s h =
    let ds = before_point s ++ behind_point s in
    let k : 9 < length ds = omega (arith, all_but_one s) in
    rw (lt-leb (length ds) 9 k, and-false (all_digits ds && (1 ≤? length ds)))

pub sign_one : (b : ℕ) → sign_length b ≤ 1
unfolding sign_length when◌then◌else◌
sign_one b = go (is_sign b)
  where
    go : (t : Bool) → (when t then 1 else 0) ≤ 1
    go true = omega arith
    go false = omega arith

pub blank_number : (f : List ℕ) → length f < 1 → Decimal false 0 0 ≡ number_of f
unfolding number_of
blank_number [] h = refl
blank_number (b ∷ f) h = absurd (let k : suc (length f) < 1 = h in omega arith)

unsigned-drop : (b : ℕ) (s : List ℕ) → unsigned (b ∷ s) ≡ drop (sign_length b) (b ∷ s)
unfolding unsigned sign_length when◌then◌else◌
unsigned-drop b s = go (is_sign b)
  where
    go : (t : Bool) → (when t then s else b ∷ s) ≡ drop (when t then 1 else 0) (b ∷ s)
    go true = refl
    go false = refl

pub behind_sign : (f : List ℕ) → 1 ≤ length f → decimal_of (get_or f 0 0 =? 0x2D) (drop (sign_length (get_or f 0 0)) f) ≡ number_of f
unfolding number_of
behind_sign [] h = absurd (let k : 1 ≤ 0 = h in omega arith)
behind_sign (b ∷ s) h = ap (decimal_of (b =? 0x2D)) (sym (unsigned-drop b s))

pub long_number : (f : List ℕ) → 1 ≤ length f → 10 < length (drop (sign_length (get_or f 0 0)) f) → NoNumber ≡ number_of f
long_number f some h = let b = get_or f 0 0 in long_decimal (b =? 0x2D) (drop (sign_length b) f) h ∙ behind_sign f some
