-- The columns of a sheet are what the definitions say of its block.
--     ColumnsAre       rain, loss and excess by interval, and the sums by ordinate
--     block-rain, block-excess, block-loss, block_sums    each of them, in the words in which the functions of water promise it
--     rains-made, ..   and where they made it
use Rattle.std.specs.Prelude.{ℕ, suc, ◌-◌, ◌*◌, ◌≤◌, ◌≡◌, refl, List, [], ◌∷◌, length, get_or}
use Rattle.std.proofs.Common.{sym, ◌∙◌, arith, ext_get_or}
use Rattle.std.proofs.Math.Path.{ap}
use Rattle.std.proofs.Math.ListN.{get_or-eq_default}
use Rattle.sequences.specs.Sums.{length-list_from, get_or_list, list_from_same}
use Rattle.meaning.specs.Records.{PB}
use Rattle.meaning.specs.Water.{ten_thousandth, list_from, rain_of, cut_of, unfilled_after, losses_of, excess_of, runoff_of, ordinate}
use Rattle.meaning.specs.Blocks.{Time, Block, is_given, card_of, storm_total, storm_rain, rain, loss, excess, listed_rain, initial_loss, uniform_loss, rain_values, unit_ordinates}
use Rattle.meaning.specs.Sheet.{sheet_of, column_sum, column_sums}
use Rattle.storms.specs.Rains.{length-rain}
use Rattle.excess.specs.declared.Storm.{Storm}
use Rattle.excess.specs.Storms.{storm_fall, storm_excess, length_fall, length-storm}
use Rattle.excess.specs.Balance.{block-loss_and_excess}
use Rattle.runoff.specs.Storm.{storm_runoff}
use Rattle.runoff.specs.Rows.{sheet_order}
use Rattle.stack.specs.Kinds.{block_storm, by_total}

pub record ColumnsAre (τ : Time) (b : Block) (rains losses excesses sums : List ℕ) : Type 0 where
  pub rains_are : rains ≡ rain τ b
  pub losses-are : losses ≡ loss τ b
  pub excesses_are : excesses ≡ excess τ b
  pub sums-are : sums ≡ column_sums (sheet_of τ b)

length_losses : (unfilled uniform : ℕ) (rains : List ℕ) → length (losses_of unfilled uniform rains) ≡ length rains
length_losses unfilled uniform [] = refl
length_losses unfilled uniform (r ∷ rains) = ap suc (length_losses (unfilled_after unfilled r) uniform rains)

module _ (τ : Time) (b : Block) where
  abbrev n : ℕ
  n = τ.ordinates

  abbrev listed : List ℕ
  listed = rain_of (rain_values b) n

  pub block-rain : storm_fall (block_storm τ b) listed ≡ rain τ b
  unfolding rain storm_rain
  block-rain = ap (cut_of τ.ratio 100) (sym (by_total (is_given (card_of PB b)) (record { 0 = storm_total b * ten_thousandth }) (listed_rain τ b)))

  pub block-excess : storm_excess (block_storm τ b) listed ≡ excess τ b
  unfolding excess
  block-excess = ap (excess_of (initial_loss b * ten_thousandth) (τ.minutes * uniform_loss b)) block-rain

  pub length-block-rain : length (rain τ b) ≡ n
  length-block-rain = ap length (sym block-rain) ∙ length_fall (block_storm τ b) listed ∙ length-rain (rain_values b) n

  pub length-block-excess : length (excess τ b) ≡ n
  length-block-excess = ap length (sym block-excess) ∙ length-storm (block_storm τ b) listed ∙ length-rain (rain_values b) n

  pub length-block-loss : length (loss τ b) ≡ n
  unfolding loss
  length-block-loss = length_losses (initial_loss b * ten_thousandth) (τ.minutes * uniform_loss b) (rain τ b) ∙ length-block-rain

  -- no more is left than fell, and the rest is lost
  pub left_within : (k : ℕ) → get_or (excess τ b) k 0 ≤ get_or (rain τ b) k 0
  left_within k = omega (arith, block-loss_and_excess τ b k)

  pub block-loss : list_from (λ (k : ℕ). get_or (rain τ b) k 0 - get_or (excess τ b) k 0) 0 n ≡ loss τ b
  block-loss =
      let f : ℕ → ℕ = λ (k : ℕ). get_or (rain τ b) k 0 - get_or (excess τ b) k 0 in
      let long : length (list_from f 0 n) ≡ n = length-list_from f 0 n in
      ext_get_or 0 (list_from f 0 n) (loss τ b) (long ∙ sym length-block-loss)
      (λ (k : ℕ) h. get_or_list f n k (omega (arith, long, h)) ∙ omega (arith, block-loss_and_excess τ b k))

  -- the sums of the columns are the runoff
  pub block_sums : runoff_of (unit_ordinates b) (excess τ b) n ≡ column_sums (sheet_of τ b)
  block_sums =
      list_from_same (ordinate (unit_ordinates b) (excess τ b)) (column_sum (sheet_of τ b)) 0 n
      (λ (i : ℕ).
      sym (sheet_order (sheet_of τ b) (λ (k : ℕ) past. get_or-eq_default (excess τ b) 0 (omega (arith, length-block-excess, past))) i))

-- what was made of a storm and of values that are the block's own, in as many words as there are ordinates
module _ (τ : Time) (b : Block) (storm : Storm) (units listed : List ℕ) (own : storm ≡ block_storm τ b) (theirs : units ≡ unit_ordinates b) (fell : listed ≡ rain_values b) where
  pub rains-made : {n : ℕ} {xs : List ℕ} → n ≡ τ.ordinates → xs ≡ storm_fall storm (rain_of listed n) → xs ≡ rain τ b
  rains-made few made = made ∙ rw (own, fell, few) (block-rain τ b)

  pub excesses_made : {n : ℕ} {xs : List ℕ} → n ≡ τ.ordinates → xs ≡ storm_excess storm (rain_of listed n) → xs ≡ excess τ b
  excesses_made few made = made ∙ rw (own, fell, few) (block-excess τ b)

  pub sums_made : {n : ℕ} {xs : List ℕ} → n ≡ τ.ordinates → xs ≡ storm_runoff units listed storm n → xs ≡ column_sums (sheet_of τ b)
  sums_made few made =
      made ∙ rw (own, theirs, fell, few) (ap (λ (es : List ℕ). runoff_of (unit_ordinates b) es τ.ordinates) (block-excess τ b) ∙ block_sums τ b)

pub losses_made : (τ : Time) (b : Block) {n : ℕ} {xs rs es : List ℕ} → rs ≡ rain τ b → es ≡ excess τ b → n ≡ τ.ordinates
    → xs ≡ list_from (λ (k : ℕ). get_or rs k 0 - get_or es k 0) 0 n → xs ≡ loss τ b
losses_made τ b fell left few made = made ∙ rw (fell, left, few) (block-loss τ b)
