-- What the words mean: the cards of a block. What is asked of them, and what taking a line's values leaves.
--     card_in, block_of     a region's card and the words' block; values behind the count are scratch
--     Counted                no head counts more values than its record may have
--     Takes               a line's values taken, or refused by 8
use Rattle.std.specs.Prelude.{ℕ, zero, suc, ◌≤◌, ◌≡◌, List, [], ◌∷◌, map, length, take, get_or}
use Rattle.std.proofs.Common.{zero-le, arith}
use Rattle.meaning.specs.Words.{met}
use Rattle.meaning.specs.Records.{table, Item, row_of, most_ordinates}
use Rattle.records.specs.Rows.{room_of, words_of, most_in}
use Rattle.meaning.specs.Blocks.{Card, Absent, Given, Block, Time, too_many, with_values}
use Rattle.blocks.specs.Regions.{regions_of}

unfoldable pub regions : List ℕ → List (List ℕ)
regions w = regions_of table w

abbrev pub region_of : Item → List ℕ → List ℕ
region_of item w = get_or (regions w) item []

-- a head of 0: not there; else 1 and how many values
abbrev pub head_in : List ℕ → ℕ
head_in r = get_or r 0 0

abbrev pub count_by : ℕ → ℕ
count_by zero = 0
count_by (suc n) = n

abbrev pub card_in : List ℕ → Card
card_in [] = Absent
card_in (zero ∷ vs) = Absent
card_in (suc n ∷ vs) = Given (take n vs)

abbrev pub block_of : List ℕ → List ℕ → Block
block_of name w = record { name = name; cards = map card_in (regions w) }

pub record Counted (nq : ℕ) (w : List ℕ) : Type 0 where
  pub few : nq ≤ most_ordinates
  pub long : words_of table ≤ length w
  pub heads : (p : ℕ) → head_in (region_of p w) ≤ suc (most_in (row_of p) nq)

-- the same for whoever only reads: no head counts more values than there is room for
pub record Readable (w : List ℕ) : Type 0 where
  pub long : words_of table ≤ length w
  pub heads : (p : ℕ) → head_in (region_of p w) ≤ suc (room_of p)

-- a refusal leaves the block as it was
abbrev pub block_after : (refusal : ℕ) → Item → List ℕ → Block → Block
block_after zero item vs b = with_values item vs b
block_after (suc n) item vs b = b

pub record Takes (item : Item) (nq : ℕ) (vs w : List ℕ) (refusal : ℕ) (w' : List ℕ) : Type 0 where
  pub number : (τ : Time) → τ.ordinates ≡ nq → (name : List ℕ) → refusal ≡ met (too_many τ item (block_of name w) vs) 8
  pub block : (name : List ℕ) → block_of name w' ≡ block_after refusal item vs (block_of name w)
  pub kept : Counted nq w'

-- a head that is within its bound counts no more than that
pub count_low : (h most : ℕ) → h ≤ suc most → count_by h ≤ most
count_low zero most e = zero-le
count_low (suc n) most e = omega arith
