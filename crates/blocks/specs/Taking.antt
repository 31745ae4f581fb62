-- A line's values taken into a region: what that makes of the card, of the block and of the heads. One law for every record.
use Rattle.std.specs.Prelude.{ℕ, zero, suc, ◌+◌, ◌≤◌, ◌<◌, ◌≡◌, Bool, ◌&&◌, not, length, take, get_or, set}
use Rattle.std.proofs.Math.Path.{refl, ap}
use Rattle.std.proofs.Common.{sym, ◌∙◌, true≢false, suc-add, length-append, length-take-le, get_or-set_same, get_or-set_other}
use Rattle.std.proofs.Math.Bool.{true, false}
use mathlib.Core.List.{List, [], ◌∷◌, ◌++◌, map}
use native.Mathlib.Omega.{arith}
use borrow.Author.Tests.{eqb-true, eqb-false, le-ltb, ltb-false}
use Rattle.std.proofs.Math.ListN.{get_or-map}
use Rattle.std.proofs.Math.Seq.{paste}
use Rattle.std.proofs.lemmas.List.Edits.{take-paste, length-paste}
use Rattle.std.proofs.lemmas.List.{set-get_or}
use Rattle.sequences.specs.Parts.{part, put, length_part, length-put}
use Rattle.meaning.specs.Words.{◌=?◌, ◌<?◌, when◌then◌else◌, met}
use Rattle.meaning.specs.Records.{UpTo, UpToNQ, Row, Once, Listed, table, Item, row_of, lists_in}
use Rattle.meaning.specs.Blocks.{Card, Absent, Given, is_given, values_of, Block, Time, card_of, over_by, too_many, repeated}
use Rattle.records.specs.Rows.{items, most_fits, most_in, room_of, span_in, start, start_fits, words_of}
use Rattle.blocks.specs.Regions.{length-regions, regions_at, regions-put}
use Rattle.blocks.specs.Cards.{regions, region_of, head_in, count_by, card_in, block_of, Counted, Takes, count_low}

-- the card of a record is that of its region
pub card_at : (item : Item) (name w : List ℕ) → card_of item (block_of name w) ≡ card_in (region_of item w)
card_at item name w = get_or-map card_in (regions w) item []

pub values-in : (h : ℕ) (r : List ℕ) → values_of (card_in (h ∷ r)) ≡ take (count_by h) r
values-in zero r = refl
values-in (suc n) r = refl

-- values behind those that a region counts, and the head raised
abbrev pub grown : List ℕ → List ℕ → ℕ → List ℕ
grown r vs n = set (paste r (suc (count_by (head_in r))) vs n) 0 (suc (count_by (head_in r) + n))

module _ (h : ℕ) (r vs : List ℕ) (n : ℕ) (fits : count_by h + n ≤ length r) (enough : n ≤ length vs) where
  pub grown_is : grown (h ∷ r) vs n ≡ suc (count_by h + n) ∷ paste r (count_by h) vs n
  grown_is = rw (suc-add (count_by h) n)

  pub grown_card : card_in (grown (h ∷ r) vs n) ≡ Given (values_of (card_in (h ∷ r)) ++ take n vs)
  grown_card =
      ap card_in grown_is ∙ ap Given (take-paste r (count_by h) vs n (omega arith) enough) ∙ ap (λ (xs : List ℕ). Given (xs ++ take n vs)) (sym (values-in h r))

  pub grown_long : length (grown (h ∷ r) vs n) ≡ suc (length r)
  grown_long = ap length grown_is ∙ ap suc (length-paste r (count_by h) vs n fits enough)

abbrev pub named : List ℕ → List Card → Block
named name cs = record { name = name; cards = cs }

map-set : (f : List ℕ → Card) (rs : List (List ℕ)) (i : ℕ) (y : List ℕ) → map f (set rs i y) ≡ set (map f rs) i (f y)
map-set f [] i y = refl
map-set f (r ∷ rs) zero y = refl
map-set f (r ∷ rs) (suc i) y = ap (λ (xs : List Card). f r ∷ xs) (map-set f rs i y)

-- what holds of each region by its place holds still where one is changed that has it too
each_set : (P : ℕ → List ℕ → Type 0) (rs : List (List ℕ)) (i : ℕ) (y : List ℕ) → ((p : ℕ) → P p (get_or rs p [])) → P i y → i < length rs
    → (p : ℕ) → P p (get_or (set rs i y) p [])
each_set P rs i y all new h p = go (p =? i) refl
  where
    go : (t : Bool) → (p =? i) ≡ t → P p (get_or (set rs i y) p [])
    go true e = rw (eqb-true p i e, get_or-set_same rs i y [] h) new
    go false e = rw (get_or-set_other rs i p y [] (eqb-false p i e)) (all p)

pub all_regions : (w : List ℕ) → length (regions w) ≡ items
unfolding regions
all_regions w = length-regions table w

module _ (item : Item) (w : List ℕ) (inside : item < items) (long : words_of table ≤ length w) where
  pub region_part : region_of item w ≡ part (start item) (suc (room_of item)) w
  unfolding regions start
  region_part = regions_at table item w inside

  pub region_fits : start item + suc (room_of item) ≤ length w
  unfolding start
  region_fits = let h = start_fits table item inside in omega arith

  pub region_long : length (region_of item w) ≡ suc (room_of item)
  region_long = rw region_part (length_part (start item) (suc (room_of item)) w region_fits)

  module _ (y : List ℕ) (full : length y ≡ suc (room_of item)) where
    pub regions-after : regions (put (start item) (suc (room_of item)) w y) ≡ set (regions w) item y
    unfolding regions start
    regions-after = regions-put table item w y inside long full

    pub block-after : (name : List ℕ) → block_of name (put (start item) (suc (room_of item)) w y) ≡ record { name = name; cards = set (map card_in (regions w)) item (card_in y) }
    block-after name = rw (regions-after, map-set card_in (regions w) item y)

    pub kept-after : (nq : ℕ) → Counted nq w → head_in y ≤ suc (most_in (row_of item) nq) → Counted nq (put (start item) (suc (room_of item)) w y)
    kept-after nq k low =
        let e : length (put (start item) (suc (room_of item)) w y) ≡ length w = length-put (start item) (suc (room_of item)) w y region_fits full in
        let h : item < length (regions w) = rw (all_regions w) inside in
        record {
          few = k.few;
          long = rw e long;
          heads = λ (p : ℕ).
              rw regions-after (each_set (λ (p : ℕ) (r : List ℕ). head_in r ≤ suc (most_in (row_of p) nq)) (regions w) item y k.heads low h p);
        }

-- a record that stands once and is not there counts no values
none_there : (row : Row) (r : List ℕ) → (not (lists_in row) && is_given (card_in r)) ≡ false → lists_in row ≡ false → count_by (head_in r) ≡ 0
none_there row [] h e = refl
none_there row (zero ∷ vs) h e = refl
none_there row (suc n ∷ vs) h e = absurd (true≢false (rw e at h))

-- refusal 8 by the count
over_by_lem : (row : Row) (τ : Time) (k count : ℕ) → (lists_in row ≡ false → k ≡ 0) → (most_in row τ.ordinates <? (k + span_in row count)) ≡ over_by row τ (k + span_in row count)
over_by_lem (Once i fs) τ k count none = le-ltb (length fs) (k + length fs) (omega (arith, none refl))
over_by_lem (Listed i (UpTo n) r) τ k count none = refl
over_by_lem (Listed i UpToNQ r) τ k count none = refl

module _ (item : Item) (nq count : ℕ) (vs w : List ℕ) (inside : item < items) (kept : Counted nq w) (enough : span_in (row_of item) count ≤ length vs)
    (once : (name : List ℕ) → repeated item (block_of name w) ≡ false) where
  abbrev n : ℕ
  n = span_in (row_of item) count

  abbrev r : List ℕ
  r = region_of item w

  abbrev over : Bool
  over = most_in (row_of item) nq <? (count_by (head_in r) + n)

  fits : over ≡ false → count_by (head_in r) + n ≤ room_of item
  fits e = omega (arith, ltb-false (most_in (row_of item) nq) (count_by (head_in r) + n) e, most_fits (row_of item) nq kept.few)

  counted : (name : List ℕ) → length (values_of (card_of item (block_of name w)) ++ take n vs) ≡ count_by (head_in r) + n
  counted name = rw (card_at item name w) (go r (region_long item w inside kept.long) (kept.heads item))
    where
      go : (x : List ℕ) → length x ≡ suc (room_of item) → head_in x ≤ suc (most_in (row_of item) nq) → length (values_of (card_in x) ++ take n vs) ≡ count_by (head_in x) + n
      go [] l h = absurd (omega arith)
      go (h ∷ x) l low =
          let fit : count_by h ≤ length x = omega (arith, count_low h (most_in (row_of item) nq) low, most_fits (row_of item) nq kept.few) in
          rw (values-in h x, length-append (take (count_by h) x) (take n vs), length-take-le (count_by h) x fit, length-take-le n vs enough)

  -- a region with the values behind its own: its room, its head, its card
  abbrev Grown : List ℕ → Type 0
  Grown x =
      (length (grown x vs n) ≡ suc (room_of item))
      × (head_in (grown x vs n) ≡ suc (count_by (head_in x) + n))
      × (card_in (grown x vs n) ≡ Given (values_of (card_in x) ++ take n vs))

  grown_region : over ≡ false → Grown r
  grown_region e = go r (region_long item w inside kept.long) (fits e)
    where
      go : (x : List ℕ) → length x ≡ suc (room_of item) → count_by (head_in x) + n ≤ room_of item → Grown x
      go [] l f = absurd (omega arith)
      go (h ∷ x) l f =
          let fit : count_by h + n ≤ length x = omega arith in
          (grown_long h x vs n fit enough ∙ l, ap head_in (grown_is h x vs n fit enough), grown_card h x vs n fit enough)

  -- the cards with this record's as it is, and with the values behind its own
  abbrev cards : List Card
  cards = map card_in (regions w)

  same_cards : set cards item (card_in r) ≡ cards
  same_cards = ap (set cards item) (sym (card_at item [] w)) ∙ set-get_or cards item Absent

  more_cards : over ≡ false → (name : List ℕ) → set cards item (card_in (grown r vs n)) ≡ set cards item (Given (values_of (card_of item (block_of name w)) ++ take n vs))
  more_cards e name = ap (set cards item) ((grown_region e).2 ∙ ap (λ (x : Card). Given (values_of x ++ take n vs)) (sym (card_at item name w)))

  number_is : (τ : Time) → τ.ordinates ≡ nq → (name : List ℕ) → over ≡ too_many τ item (block_of name w) (take n vs)
  unfolding too_many
  number_is τ same name =
      ap (λ (q : ℕ). most_in (row_of item) q <? (count_by (head_in r) + n)) (sym same)
      ∙ over_by_lem (row_of item) τ (count_by (head_in r)) count (λ e. none_there (row_of item) r (rw (card_at item name w) at (once name)) e)
      ∙ ap (over_by (row_of item) τ) (sym (counted name))

  pub takes : (refusal : ℕ) (y : List ℕ) → refusal ≡ met over 8 → y ≡ (when over then r else grown r vs n)
      → Takes item nq (take n vs) w refusal (put (start item) (suc (room_of item)) w y)
  unfolding when◌then◌else◌
  takes refusal y a e = go over refl a e
    where
      go : (t : Bool) → over ≡ t → refusal ≡ met t 8 → y ≡ (when t then r else grown r vs n) → Takes item nq (take n vs) w refusal (put (start item) (suc (room_of item)) w y)
      go true o a e =
          let l = region_long item w inside kept.long in
          record {
            number = λ (τ : Time) same (name : List ℕ). rw (sym (number_is τ same name), o) a;
            block = λ (name : List ℕ). rw (a, e) (block-after item w inside kept.long r l name ∙ ap (named name) same_cards);
            kept = rw e (kept-after item w inside kept.long r l nq kept (kept.heads item));
          }
      go false o a e =
          let g = grown_region o in
          record {
            number = λ (τ : Time) same (name : List ℕ). rw (sym (number_is τ same name), o) a;
            block = λ (name : List ℕ). rw (a, e) (block-after item w inside kept.long (grown r vs n) g.0 name ∙ ap (named name) (more_cards o name));
            kept = rw e (kept-after item w inside kept.long (grown r vs n) g.0 nq kept (rw g.1 (omega (arith, ltb-false (most_in (row_of item) nq) (count_by (head_in r) + n) o))));
          }
