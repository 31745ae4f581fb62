-- A record's head and its values, as they stand in the words.
use Rattle.std.specs.Prelude.{ℕ, zero, suc, ◌+◌, ◌≤◌, ◌<◌, ◌≡◌, refl, false, ◌&&◌, not, List, [], ◌∷◌, length, take, drop, get_or}
use Rattle.std.proofs.Common.{zero-le, sym, ◌∙◌, ap, add-zero, arith, lt-ltb, length-take, take-take, drop-drop}
use Rattle.std.proofs.lemmas.List.{length-map}
use Rattle.sequences.specs.Parts.{part, get_d_part}
use Rattle.meaning.specs.Words.{◌<?◌}
use Rattle.meaning.specs.Records.{Row, Once, Listed, UpTo, UpToNQ, table, Item, row_of, lists_in}
use Rattle.meaning.specs.Blocks.{is_given, values_of, card_of, repeated}
use Rattle.records.specs.Rows.{items, most_fits, room_of, start, way_in, words_of}
use Rattle.blocks.specs.Cards.{regions, region_of, head_in, count_by, card_in, block_of, Counted, Readable, count_low}
use Rattle.blocks.specs.Taking.{card_at, values-in, all_regions, region_part, region_long}

pub counted_readable : {nq : ℕ} {w : List ℕ} → Counted nq w → Readable w
counted_readable {nq} k =
    record { long = k.long; heads = λ (p : ℕ). let h = k.heads p in let m = most_fits (row_of p) nq k.few in omega arith }

-- the words have a card for each record
pub block_long : (name w : List ℕ) → length (block_of name w).cards ≡ items
block_long name w = length-map (regions w) card_in ∙ all_regions w

-- behind the head of a region
inner : (k m : ℕ) (z : List ℕ) → k ≤ m → take k (drop 1 (take (suc m) z)) ≡ take k (drop 1 z)
inner k m [] h = refl
inner k m (x ∷ z) h = take-take k m z h

module _ (item : Item) (w : List ℕ) (inside : item < items) (long : words_of table ≤ length w) where
  pub head_at : head_in (region_of item w) ≡ get_or w (start item) 0
  head_at = ap head_in (region_part item w inside long) ∙ get_d_part (start item) (suc (room_of item)) w 0 (omega arith) ∙ ap (λ (k : ℕ). get_or w k 0) (add-zero (start item))

  given_in : (r : List ℕ) → (0 <? head_in r) ≡ is_given (card_in r)
  given_in [] = refl
  given_in (zero ∷ vs) = refl
  given_in (suc n ∷ vs) = lt-ltb 0 (suc n) (omega arith)

  pub given_at : (name : List ℕ) → (0 <? get_or w (start item) 0) ≡ is_given (card_of item (block_of name w))
  given_at name = ap (λ (h : ℕ). 0 <? h) (sym head_at) ∙ given_in (region_of item w) ∙ ap is_given (sym (card_at item name w))

  pub values_at : (name : List ℕ) → head_in (region_of item w) ≤ suc (room_of item) → part (start item + 1) (count_by (get_or w (start item) 0)) w ≡ values_of (card_of item (block_of name w))
  values_at name low =
      ap (λ (h : ℕ). part (start item + 1) (count_by h) w) (sym head_at)
      ∙ sym (go (region_of item w) (region_part item w inside long) (region_long item w inside long) low)
      ∙ ap values_of (sym (card_at item name w))
    where
      go : (r : List ℕ) → r ≡ part (start item) (suc (room_of item)) w → length r ≡ suc (room_of item) → head_in r ≤ suc (room_of item)
          → values_of (card_in r) ≡ part (start item + 1) (count_by (head_in r)) w
      go [] e l h = absurd (omega arith)
      go (h ∷ r) e l low =
          values-in h r ∙ ap (λ (x : List ℕ). take (count_by h) (drop 1 x)) e
          ∙ inner (count_by h) (room_of item) (drop (start item) w) (count_low h (room_of item) low)
          ∙ ap (take (count_by h)) (drop-drop 1 (start item) w)

pub once-repeated : (item : Item) (name w : List ℕ) → way_in (row_of item) ≡ 0 → is_given (card_of item (block_of name w)) ≡ repeated item (block_of name w)
once-repeated item name w e = by (row_of item) e
  where
    by : (r : Row) → way_in r ≡ 0 → is_given (card_of item (block_of name w)) ≡ (not (lists_in r) && is_given (card_of item (block_of name w)))
    by (Once i fs) e = refl
    by (Listed i (UpTo n) r) e = absurd (omega arith)
    by (Listed i UpToNQ r) e = absurd (omega arith)

pub list_repeated : (item : Item) (name w : List ℕ) → (way_in (row_of item) ≡ 0 → ⊥) → false ≡ repeated item (block_of name w)
list_repeated item name w e = by (row_of item) e
  where
    by : (r : Row) → (way_in r ≡ 0 → ⊥) → false ≡ (not (lists_in r) && is_given (card_of item (block_of name w)))
    by (Once i fs) e = absurd (e refl)
    by (Listed i m r) e = refl

-- no more values than there is room for
pub values_few : (item : Item) (name w : List ℕ) → item < items → words_of table ≤ length w → length (values_of (card_of item (block_of name w))) ≤ room_of item
values_few item name w inside long = rw (card_at item name w) (go (region_of item w) (region_long item w inside long))
  where
    go : (r : List ℕ) → length r ≡ suc (room_of item) → length (values_of (card_in r)) ≤ room_of item
    go [] l = zero-le
    go (zero ∷ vs) l = zero-le
    go (suc n ∷ vs) l = rw (length-take n vs) (omega arith)
