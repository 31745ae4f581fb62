-- CR 1's promise to a reader, and CR 3's: the intervals of a block with PB add up to its total T, in depth units, and under a ratio r, in hundredths, to floor(r·T/100), in
-- every block of every accepted deck (proofs/Storms.antt). And a total of 0 is no rain, whatever the pattern and the ratio.
--     rain_adds_up      of a block that 18 does not refuse
--     no_total_no_rain  of any block
use Rattle.std.specs.Prelude.{ℕ, ◌*◌, ◌/◌, ◌≤◌, ◌<◌, ◌≡◌, true, false, length, replicate}
use Rattle.std.proofs.Common.{sym, ap, ◌∙◌, ⊎_elim, arith, lt-ltb}
use mathlib.Core.List.{List, [], ◌∷◌}
use Rattle.std.proofs.lemmas.Bool.{eqb-false}
use Rattle.meaning.specs.Words.{when◌then◌else◌}
use Rattle.meaning.specs.Records.{PB}
use Rattle.meaning.specs.Water.{ten_thousandth, sum_of, cut_of}
use Rattle.meaning.specs.Blocks.{Time, under, Block, is_given, card_of, storm_total, listed_rain, storm_rain, rain, patternless}
use Rattle.sequences.specs.Choices.{below_or_not}
use Rattle.sequences.specs.Cuts.{sum-cut, cut-dry, cut_none, sum-whole}
use Rattle.sequences.specs.Sums.{sum-dry}

-- The total in depth units.
abbrev pub total : Block → ℕ
total b = storm_total b * ten_thousandth

-- What is promised of a block where it has PB.
pub record AddsUp (σ : Time) (b : Block) : Type 0 where
  pub storm : sum_of (storm_rain σ b) ≡ total b
  pub by-ratio : (r : ℕ) → sum_of (rain (under r σ) b) ≡ r * total b / 100

-- where PB is given, the rain of the storm is its total cut by what PI lists
cut-storm : (τ : Time) (b : Block) → is_given (card_of PB b) ≡ true → storm_rain τ b ≡ cut_of (total b) (sum_of (listed_rain τ b)) (listed_rain τ b)
unfolding storm_rain when◌then◌else◌
cut-storm τ b given = rw given

no_storm : (τ : Time) (b : Block) → is_given (card_of PB b) ≡ true → storm_total b ≡ 0 → storm_rain τ b ≡ replicate (length (listed_rain τ b)) 0
no_storm τ b given none =
    cut-storm τ b given ∙ ap (λ (t : ℕ). cut_of (t * ten_thousandth) (sum_of (listed_rain τ b)) (listed_rain τ b)) none ∙ cut_none (sum_of (listed_rain τ b)) (listed_rain τ b)

pub no_total_no_rain : (τ : Time) (b : Block) → is_given (card_of PB b) ≡ true → storm_total b ≡ 0 → rain τ b ≡ replicate (length (listed_rain τ b)) 0
unfolding rain cut_of
no_total_no_rain τ b given none = ap (cut_of τ.ratio 100) (no_storm τ b given none) ∙ cut-dry τ.ratio 100 [] (length (listed_rain τ b))

-- a total above 0 has a pattern above 0
some_pattern : (τ : Time) (b : Block) → patternless τ b ≡ false → 0 < storm_total b → 0 < sum_of (listed_rain τ b)
unfolding patternless
some_pattern τ b fit some =
    let other = eqb-false (sum_of (listed_rain τ b)) 0 (rw (lt-ltb 0 (storm_total b) some) at fit) in
    ⊎_elim (λ (h : 0 < sum_of (listed_rain τ b)). h) (λ (h : sum_of (listed_rain τ b) ≤ 0). absurd (other (omega arith))) (below_or_not 0 (sum_of (listed_rain τ b)))

storm_adds_up : (τ : Time) (b : Block) → patternless τ b ≡ false → is_given (card_of PB b) ≡ true → sum_of (storm_rain τ b) ≡ total b
storm_adds_up τ b fit given =
    ⊎_elim
    (λ (some : 0 < storm_total b). ap sum_of (cut-storm τ b given) ∙ sum-whole (total b) (listed_rain τ b) (some_pattern τ b fit some))
    (λ (none : storm_total b ≤ 0).
    let no : storm_total b ≡ 0 = omega arith in
    ap sum_of (no_storm τ b given no) ∙ sum-dry [] (length (listed_rain τ b)) ∙ sym (ap (λ (t : ℕ). t * ten_thousandth) no))
    (below_or_not 0 (storm_total b))

-- the storm's rain knows no ratio
pub rain_adds_up : (σ : Time) (b : Block) → patternless σ b ≡ false → is_given (card_of PB b) ≡ true → AddsUp σ b
unfolding rain storm_rain
rain_adds_up σ b fit given =
    let whole = storm_adds_up σ b fit given in
    record { storm = whole; by-ratio = λ (r : ℕ). sum-cut r 100 (storm_rain σ b) ∙ ap (λ (t : ℕ). r * t / 100) whole }

-- EVERY BLOCK of an accepted deck.
abbrev pub AllBlocks : (Block → Type 0) → List Block → Type 0
AllBlocks P [] = Unit
AllBlocks P (b ∷ bs) = P b × AllBlocks P bs

abbrev pub Promised : Time → Block → Type 0
Promised σ b = is_given (card_of PB b) ≡ true → AddsUp σ b

-- under whatever ratio the blocks were worked
module _ (r : ℕ) (σ : Time) where
  abbrev τ : Time
  τ = under r σ
