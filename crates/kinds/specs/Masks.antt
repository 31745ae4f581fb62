-- The records that are there as one number, and the numbers that a set of records allows.
--     mask_of         2 to the power of its place for each card that is there
--     masks          the numbers of a set: what must be there is counted, what may be there is or is not
--     agrees_mask    cards are those of a set where their number is one of the set's
use Rattle.std.specs.Prelude.{ℕ, zero, suc, ◌+◌, ◌*◌, ◌^◌, ◌≤◌, ◌<◌, ◌≡◌, refl, Bool, true, false, ◌&&◌, ◌||◌, not, List, [], ◌∷◌, ◌++◌, map, length, drop}
use Rattle.std.proofs.Common.{sym, ◌∙◌, arith, eq-eqb, ne_eqb, eqb-true, pow-suc, add-one, length-drop, drop_of_length-le, drop-cons}
use Rattle.std.proofs.Math.Bool.{or-false}
use Rattle.std.proofs.lemmas.Bool.{eqb-false}
use Rattle.std.proofs.Math.Nat.{pow-zero, pow-le-pow_right}
use Rattle.meaning.specs.Words.{◌=?◌, when◌then◌else◌}
use Rattle.meaning.specs.Records.{Item}
use Rattle.meaning.specs.Blocks.{Card, Absent, is_given, card_of, among, agrees_from}
use Rattle.records.specs.Rows.{items}
use Rattle.blocks.specs.Cards.{regions, card_in, block_of}
use Rattle.blocks.specs.Values.{block_long}

abbrev pub bit_of : Bool → ℕ
bit_of true = 1
bit_of false = 0

abbrev pub mask_of : List Card → ℕ
mask_of [] = 0
mask_of (c ∷ cs) = bit_of (is_given c) + 2 * mask_of cs

-- the numbers of some more cards, behind one that is there and behind one that is not
abbrev pub behind : Bool → List ℕ → List ℕ
behind given [] = []
behind given (m ∷ ms) = (bit_of given + 2 * m) ∷ behind given ms

abbrev pub masks : (must may : List Item) → Item → ℕ → List ℕ
masks must may item zero = 0 ∷ []
masks must may item (suc n) =
    let ms = masks must may (item + 1) n in
    when among item must then behind true ms else
    when among item may then behind false ms ++ behind true ms else
    behind false ms

-- a number with that bit before it is among those with that bit, and not among those with the other
among-behind : (t : Bool) (m : ℕ) (ms : List ℕ) → among (bit_of t + 2 * m) (behind t ms) ≡ among m ms
among-behind t m [] = refl
among-behind t m (x ∷ ms) = rw (same_bit t (m =? x) refl, among-behind t m ms)
  where
    same_bit : (t : Bool) (s : Bool) → (m =? x) ≡ s → ((bit_of t + 2 * m) =? (bit_of t + 2 * x)) ≡ s
    same_bit t true e = eq-eqb (bit_of t + 2 * m) (bit_of t + 2 * x) (rw (eqb-true m x e))
    same_bit t false e = ne_eqb (bit_of t + 2 * m) (bit_of t + 2 * x) (λ f. eqb-false m x e (omega arith))

not_behind : (t s : Bool) → (bit_of t ≡ bit_of s → ⊥) → (m : ℕ) (ms : List ℕ) → among (bit_of t + 2 * m) (behind s ms) ≡ false
not_behind t s other m [] = refl
not_behind t s other m (x ∷ ms) =
    rw (ne_eqb (bit_of t + 2 * m) (bit_of s + 2 * x) (λ e. apart t s other m x e), not_behind t s other m ms)
  where
    apart : (t s : Bool) → (bit_of t ≡ bit_of s → ⊥) → (m x : ℕ) → bit_of t + 2 * m ≡ bit_of s + 2 * x → ⊥
    apart true true other m x e = other refl
    apart true false other m x e = omega arith
    apart false true other m x e = omega arith
    apart false false other m x e = other refl

pub among-append : (n : ℕ) (xs ys : List ℕ) → among n (xs ++ ys) ≡ (among n xs || among n ys)
among-append n [] ys = refl
among-append n (x ∷ xs) ys = go (n =? x) (among-append n xs ys)
  where
    go : (t : Bool) → among n (xs ++ ys) ≡ (among n xs || among n ys) → (t || among n (xs ++ ys)) ≡ ((t || among n xs) || among n ys)
    go true e = refl
    go false e = e

-- one card more
among_next : (must may : Bool) (given : Bool) (m : ℕ) (ms : List ℕ)
    → ((when must then given else when may then true else not given) && among m ms)
    ≡ among (bit_of given + 2 * m) (when must then behind true ms else when may then behind false ms ++ behind true ms else behind false ms)
unfolding when◌then◌else◌
among_next true may true m ms = sym (among-behind true m ms)
among_next true may false m ms = sym (not_behind false true (λ e. omega arith) m ms)
among_next false true true m ms =
    sym (among-append (1 + 2 * m) (behind false ms) (behind true ms)
    ∙ rw (not_behind true false (λ e. omega arith) m ms, among-behind true m ms))
among_next false true false m ms =
    sym (among-append (0 + 2 * m) (behind false ms) (behind true ms)
    ∙ rw (among-behind false m ms, not_behind false true (λ e. omega arith) m ms, or-false (among m ms)))
among_next false false true m ms = sym (not_behind true false (λ e. omega arith) m ms)
among_next false false false m ms = sym (among-behind false m ms)

pub agrees_mask : (must may : List Item) (item : Item) (cs : List Card) → agrees_from must may item cs ≡ among (mask_of cs) (masks must may item (length cs))
agrees_mask must may item [] = refl
agrees_mask must may item (c ∷ cs) =
    rw (agrees_mask must may (item + 1) cs) (among_next (among item must) (among item may) (is_given c) (mask_of cs) (masks must may (item + 1) (length cs)))

-- THE NUMBER BY A PASS over the cards, the last first
abbrev pub mask_on : List ℕ → Item → ℕ
mask_on w item = mask_of (drop item (map card_in (regions w)))

bit_low : (t : Bool) → bit_of t ≤ 1
bit_low true = omega arith
bit_low false = omega arith

mask_low : (cs : List Card) → mask_of cs < 2 ^ length cs
mask_low [] = rw (pow-zero 2) (omega arith)
mask_low (c ∷ cs) = let h = mask_low cs in rw (pow-suc 2 (length cs)) (omega (arith, bit_low (is_given c)))

module _ (name w : List ℕ) (item : Item) where
  pub mask_next : item < items → bit_of (is_given (card_of item (block_of name w))) + 2 * mask_on w (item + 1) ≡ mask_on w item
  mask_next inside =
      let h : item < length (map card_in (regions w)) = rw (block_long name w) inside in
      rw (drop-cons (map card_in (regions w)) item Absent h, add-one)

  pub mask_end : items ≤ item → mask_on w item ≡ 0
  mask_end past = let h : length (map card_in (regions w)) ≤ item = rw (block_long name w) past in rw (drop_of_length-le (map card_in (regions w)) h)

  pub mask_small : mask_on w item < 2 ^ items
  mask_small =
      let few : length (drop item (map card_in (regions w))) ≤ items = simp length-drop (omega (arith, block_long name w)) in
      omega (arith, mask_low (drop item (map card_in (regions w))), pow-le-pow_right {n = 2} (omega arith) few)
