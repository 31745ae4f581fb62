-- The kind of a block, from the records that are there.
--     kind_by_mask   by their number alone
--     kind_by_none   none, where their number is that of no set
--     kind_told      no two kinds mean the same
--     kind_must      a record that every set of a kind must have is there
use Rattle.std.specs.Prelude.{ℕ, zero, suc, ◌+◌, ◌<◌, ◌≡◌, refl, Bool, true, false, ◌&&◌, List, [], ◌∷◌, ◌++◌, length, get_or, Option, Some, None}
use Rattle.std.proofs.Common.{sym, ◌∙◌, ap, arith, eq-eqb, ne_eqb}
use Rattle.sequences.specs.Choices.{both_hold, both_fail}
use Rattle.meaning.specs.Words.{◌=?◌, when◌then◌else◌}
use Rattle.meaning.specs.Records.{Item}
use Rattle.meaning.specs.Blocks as blocks
use Rattle.meaning.specs.Blocks.{Card, Absent, is_given, Block, card_of, kind_number, Set, SetOf, sets, among, agrees_at, agrees_from, holds, kind_in, kind_of}
use Rattle.records.specs.Rows.{items}
use Rattle.blocks.specs.Cards.{block_of}
use Rattle.blocks.specs.Values.{block_long}
use Rattle.kinds.specs.Masks.{mask_of, masks, among-append, agrees_mask}
use Rattle.kinds.specs.declared.Kind.{Kind}
use Rattle.kinds.specs.declared.Kind.TheVariants.{Basin, Inflow, Confluence, Reach, Pond}

abbrev pub kind_meant : Option Kind → blocks.Kind
kind_meant None = blocks.NoKind
kind_meant (Some Basin) = blocks.Basin
kind_meant (Some Inflow) = blocks.Inflow
kind_meant (Some Confluence) = blocks.Confluence
kind_meant (Some Reach) = blocks.Reach
kind_meant (Some Pond) = blocks.Pond

-- no two kinds mean the same
meant_back : blocks.Kind → Option Kind
meant_back blocks.NoKind = None
meant_back blocks.Basin = Some Basin
meant_back blocks.Inflow = Some Inflow
meant_back blocks.Confluence = Some Confluence
meant_back blocks.Reach = Some Reach
meant_back blocks.Pond = Some Pond

meant-back : (k : Option Kind) → k ≡ meant_back (kind_meant k)
unfolding meant_back
meant-back None = refl
meant-back (Some Basin) = refl
meant-back (Some Inflow) = refl
meant-back (Some Confluence) = refl
meant-back (Some Reach) = refl
meant-back (Some Pond) = refl

pub kind_told : (x y : Option Kind) → kind_meant x ≡ kind_meant y → x ≡ y
kind_told x y e = meant-back x ∙ rw e (sym (meant-back y))

abbrev pub kind_at : List Set → ℕ → blocks.Kind
kind_at [] mask = blocks.NoKind
kind_at (SetOf kind must may ∷ rest) mask = when among mask (masks must may 0 items) then kind else kind_at rest mask

by_masks : (ss : List Set) (b : Block) → length b.cards ≡ items → kind_in ss b ≡ kind_at ss (mask_of b.cards)
unfolding holds
by_masks [] b long = refl
by_masks (SetOf kind must may ∷ rest) b long = rw (agrees_mask must may 0 b.cards, long, by_masks rest b long)

pub kind_by_mask : (name w : List ℕ) → kind_of (block_of name w) ≡ kind_at sets (mask_of (block_of name w).cards)
unfolding kind_of
kind_by_mask name w = by_masks sets (block_of name w) (block_long name w)

-- NO KIND
-- a number that is none of the keys, as a match tells it behind what it told before
abbrev pub NoneOf : Type 0 → List ℕ → ℕ → Type 0
NoneOf T [] m = T
NoneOf T (k ∷ ks) m = NoneOf (T × (m ≡ k → ⊥)) ks m

before : (T : Type 0) (ks : List ℕ) (m : ℕ) → NoneOf T ks m → T
before T [] m h = h
before T (k ∷ ks) m h = (before (T × (m ≡ k → ⊥)) ks m h).0

not_among : (T : Type 0) (ks : List ℕ) (m : ℕ) → NoneOf T ks m → among m ks ≡ false
not_among T [] m h = refl
not_among T (k ∷ ks) m h = rw (ne_eqb m k (before (T × (m ≡ k → ⊥)) ks m h).1) (not_among (T × (m ≡ k → ⊥)) ks m h)

-- the numbers of all sets
abbrev pub keys_of : List Set → List ℕ
keys_of [] = []
keys_of (SetOf kind must may ∷ rest) = masks must may 0 items ++ keys_of rest

no_set : (ss : List Set) (m : ℕ) → among m (keys_of ss) ≡ false → blocks.NoKind ≡ kind_at ss m
unfolding when◌then◌else◌
no_set [] m h = refl
no_set (SetOf kind must may ∷ rest) m h =
    let both = both_fail (among m (masks must may 0 items)) (among m (keys_of rest)) (sym (among-append m (masks must may 0 items) (keys_of rest)) ∙ h) in
    rw both.0 (no_set rest m both.1)

pub kind_by_none : (m : ℕ) → NoneOf Unit (keys_of sets) m → blocks.NoKind ≡ kind_at sets m
kind_by_none m h = no_set sets m (not_among Unit (keys_of sets) m h)

-- WHAT A KIND HAS
agrees_must : (must may : List Item) (cs : List Card) (i p : ℕ) → agrees_from must may i cs ≡ true → p < length cs → among (i + p) must ≡ true → is_given (get_or cs p Absent) ≡ true
unfolding when◌then◌else◌
agrees_must must may [] i p h k m = absurd (omega arith)
agrees_must must may (c ∷ cs) i zero h k m =
    let e : i + 0 ≡ i = omega arith in
    let n : among i must ≡ true = rw e at m in
    rw n at (both_hold (agrees_at must may i c) (agrees_from must may (i + 1) cs) h).0
agrees_must must may (c ∷ cs) i (suc p) h k m =
    let e : i + suc p ≡ i + 1 + p = omega arith in
    agrees_must must may cs (i + 1) p (both_hold (agrees_at must may i c) (agrees_from must may (i + 1) cs) h).1 (omega arith) (rw e at m)

-- every set of a kind must have the record
abbrev pub always : List Set → ℕ → Item → Bool
always [] number item = true
always (SetOf kind must may ∷ rest) number item = (when kind_number kind =? number then among item must else true) && always rest number item

in_sets : (ss : List Set) (b : Block) (number : ℕ) (item : Item) → (number ≡ 0 → ⊥) → item < length b.cards → always ss number item ≡ true → kind_number (kind_in ss b) ≡ number
    → is_given (card_of item b) ≡ true
unfolding holds when◌then◌else◌
in_sets [] b number item some inside all e = absurd (some (sym e))
in_sets (SetOf kind must may ∷ rest) b number item some inside all e =
    let both = both_hold (when kind_number kind =? number then among item must else true) (always rest number item) all in
    go (agrees_from must may 0 b.cards) refl both.0 e (λ f. in_sets rest b number item some inside both.1 f)
  where
    go : (t : Bool) → agrees_from must may 0 b.cards ≡ t → (when kind_number kind =? number then among item must else true) ≡ true
        → kind_number (when t then kind else kind_in rest b) ≡ number → (kind_number (kind_in rest b) ≡ number → is_given (card_of item b) ≡ true) → is_given (card_of item b) ≡ true
    go true a own f later =
        let here : among item must ≡ true = rw (eq-eqb (kind_number kind) number f) at own in
        let z : 0 + item ≡ item = omega arith in
        agrees_must must may b.cards 0 item a inside (rw z here)
    go false a own f later = later f

pub kind_must : (b : Block) (k : blocks.Kind) (item : Item) → always sets (kind_number k) item ≡ true → (kind_number k ≡ 0 → ⊥) → item < length b.cards → kind_of b ≡ k
    → is_given (card_of item b) ≡ true
unfolding kind_of
kind_must b k item all some inside e = in_sets sets b (kind_number k) item some inside all (ap kind_number e)
