-- A byte in two hexadecimal digits, and bytes one behind another.
--     hex_more     what one more byte adds
--     three-bytes  three of them as they are printed
use Rattle.std.specs.Prelude.{ℕ, zero, suc, ◌+◌, ◌-◌, ◌/◌, ◌%◌, ◌<◌, ◌≡◌, refl, List, [], ◌∷◌, ◌++◌, length, get_or, take}
use Prim.Native.Char.{code}
use Rattle.std.proofs.Common.{ap, add-one, arith}
use Rattle.meaning.specs.Words.{◌<?◌, when◌then◌else◌, bytes}
use Rattle.meaning.specs.Listing.{digit}

-- Two digits.
abbrev pub byte_size : ℕ
byte_size = 2

abbrev pub hex_digit : ℕ → ℕ
hex_digit d = when d <? 10 then digit d else code "a" + (d - 10)

abbrev pub hex : ℕ → List ℕ
hex b = hex_digit (b / 16) ∷ hex_digit (b % 16) ∷ []

abbrev pub hex_all : List ℕ → List ℕ
hex_all [] = []
hex_all (b ∷ bs) = hex b ++ hex_all bs

three-bytes : hex_all (0 ∷ 85 ∷ 250 ∷ []) ≡ bytes "0055fa"
unfolding when◌then◌else◌
three-bytes = refl

hex-next : (i : ℕ) (bs : List ℕ) → i < length bs → hex_all (take (suc i) bs) ≡ hex_all (take i bs) ++ hex (get_or bs i 0)
hex-next i [] h = absurd (omega arith)
hex-next zero (b ∷ bs) h = refl
hex-next (suc i) (b ∷ bs) h = ap (λ (l : List ℕ). hex b ++ l) (hex-next i bs (omega arith))

pub hex_more : (i : ℕ) (bs : List ℕ) → i < length bs → hex_all (take (i + 1) bs) ≡ hex_all (take i bs) ++ hex (get_or bs i 0)
hex_more i bs h = rw (add-one i) (hex-next i bs h)
