-- A record's bytes tested as one number of several bytes.
--     middle_padding    the padding before the sum; tail_padding: that behind ratio and place
--     four_bytes       four bytes at the front of a list
--     number_same      two runs of as many bytes are the same where their numbers are
--     other_told       the ratio and the place, by their number
--     middle_told, tail_told     that padding, by its number
use Rattle.std.specs.Prelude.{ℕ, zero, suc, ◌+◌, ◌*◌, ◌≤◌, ◌≡◌, refl, Bool, true, false, not, ◌&&◌, ◌||◌, List, [], ◌∷◌, length, take, drop, get_or}
use Rattle.std.proofs.Common.{ap, ◌∙◌, arith, eq-eqb, ne_eqb, eqb-true, add-one, drop-cons}
use Rattle.std.proofs.lemmas.Bool.{eqb-false}
use Rattle.meaning.specs.Words.{◌=?◌, same}
use Rattle.meaning.specs.Results.{record_size, old_record_size}
use Rattle.meaning.specs.Moving.{filled, other_ratio, whole_ratio}
use Rattle.sequences.specs.Bounds.{AllUpTo, bound_tail, bound_part}
use Rattle.sequences.specs.Parts.{part, length_part}
use Rattle.slices.specs.Bytes.{from_little_endian}
use Rattle.forms.specs.Forms.{whole}

abbrev pub middle_padding : List ℕ
middle_padding = 22 ∷ 23 ∷ []

abbrev pub tail_padding : List ℕ
tail_padding = 36 ∷ 37 ∷ 38 ∷ 39 ∷ []

byte_same : (x y m n : ℕ) → x ≤ 255 → y ≤ 255 → (x + 256 * m =? y + 256 * n) ≡ ((x =? y) && (m =? n))
byte_same x y m n h k = go (x =? y) (m =? n) refl refl
  where
    go : (s t : Bool) → (x =? y) ≡ s → (m =? n) ≡ t → (x + 256 * m =? y + 256 * n) ≡ (s && t)
    go true true e f = eq-eqb (x + 256 * m) (y + 256 * n) (omega (arith, eqb-true x y e, eqb-true m n f))
    go true false e f = ne_eqb (x + 256 * m) (y + 256 * n) (λ g. eqb-false m n f (omega (arith, eqb-true x y e)))
    go false t e f = ne_eqb (x + 256 * m) (y + 256 * n) (λ g. eqb-false x y e (omega arith))

pub number_same : (xs ys : List ℕ) → length xs ≡ length ys → AllUpTo 255 xs → AllUpTo 255 ys → (from_little_endian xs =? from_little_endian ys) ≡ same xs ys
unfolding same
number_same [] [] long h k = refl
number_same [] (y ∷ ys) long h k = absurd (omega arith)
number_same (x ∷ xs) [] long h k = absurd (omega arith)
number_same (x ∷ xs) (y ∷ ys) long h k =
    byte_same x y (from_little_endian xs) (from_little_endian ys) (h 0) (k 0)
    ∙ ap (λ (t : Bool). (x =? y) && t) (number_same xs ys (omega arith) (bound_tail 255 x xs h) (bound_tail 255 y ys k))

pub four_bytes : (xs : List ℕ) → 4 ≤ length xs → take 4 xs ≡ get_or xs 0 0 ∷ get_or xs 1 0 ∷ get_or xs 2 0 ∷ get_or xs 3 0 ∷ []
four_bytes [] h = absurd (omega arith)
four_bytes (a ∷ []) h = absurd (omega arith)
four_bytes (a ∷ b ∷ []) h = absurd (omega arith)
four_bytes (a ∷ b ∷ c ∷ []) h = absurd (omega arith)
four_bytes (a ∷ b ∷ c ∷ d ∷ xs) h = refl

-- PADDING. Bytes that stand one behind another are zero where their number is.
places : (from count : ℕ) → List ℕ
places a zero = []
places a (suc n) = a ∷ places (a + 1) n

any_byte : List ℕ → Bool
any_byte [] = false
any_byte (x ∷ xs) = not (x =? 0) || any_byte xs

number_none : (xs : List ℕ) → not (from_little_endian xs =? 0) ≡ any_byte xs
unfolding any_byte
number_none [] = refl
number_none (x ∷ xs) = go (x =? 0) (from_little_endian xs =? 0) refl refl ∙ ap (λ (t : Bool). not (x =? 0) || t) (number_none xs)
  where
    go : (s t : Bool) → (x =? 0) ≡ s → (from_little_endian xs =? 0) ≡ t → not (x + 256 * from_little_endian xs =? 0) ≡ (not s || not t)
    go true true e f = rw (eq-eqb (x + 256 * from_little_endian xs) 0 (omega (arith, eqb-true x 0 e, eqb-true (from_little_endian xs) 0 f)))
    go true false e f = rw (ne_eqb (x + 256 * from_little_endian xs) 0 (λ g. eqb-false (from_little_endian xs) 0 f (omega arith)))
    go false t e f = rw (ne_eqb (x + 256 * from_little_endian xs) 0 (λ g. eqb-false x 0 e (omega arith)))

any_places : (a n : ℕ) (r : List ℕ) → a + n ≤ length r → any_byte (part a n r) ≡ filled (places a n) r
unfolding any_byte places
any_places a zero r h = refl
any_places a (suc n) r h =
    let here : drop a r ≡ get_or r a 0 ∷ drop (a + 1) r = drop-cons r a 0 (omega arith) ∙ rw (add-one a) in
    rw here (ap (λ (t : Bool). not (get_or r a 0 =? 0) || t) (any_places (a + 1) n r (omega arith)))

pub middle_told : (r : List ℕ) → old_record_size ≤ length r → not (from_little_endian (part 22 2 r) =? 0) ≡ filled middle_padding r
unfolding places
middle_told r h = number_none (part 22 2 r) ∙ any_places 22 2 r (omega arith)

pub tail_told : (r : List ℕ) → length r ≡ record_size → not (from_little_endian (part 36 4 r) =? 0) ≡ filled tail_padding r
unfolding places
tail_told r h = number_none (part 36 4 r) ∙ any_places 36 4 r (omega arith)

module _ (r : List ℕ) (size : length r ≡ record_size) (bytes : AllUpTo 255 r) where
  whole_up : AllUpTo 255 whole_ratio
  whole_up zero = omega arith
  whole_up (suc zero) = omega arith
  whole_up (suc (suc zero)) = omega arith
  whole_up (suc (suc (suc zero))) = omega arith
  whole_up (suc (suc (suc (suc k)))) = omega arith

  pub other_told : not (from_little_endian (part old_record_size 4 r) =? whole) ≡ other_ratio r
  other_told =
      let long : length (part old_record_size 4 r) ≡ 4 = length_part old_record_size 4 r (omega arith) in
      ap not (number_same (part old_record_size 4 r) whole_ratio long (bound_part 255 old_record_size 4 r bytes) whole_up)
