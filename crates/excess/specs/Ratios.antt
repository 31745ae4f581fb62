-- The rain of a block under a ratio, beside what falls without one.
--     rain_at_one     under 1.00 it is what falls, so that a deck without JR has every answer that it had
--     rain_adds_up    under any ratio all intervals together get the floor of the ratio's share of all that falls
use Rattle.std.specs.Prelude.{◌*◌, ◌/◌, ◌≡◌}
use Rattle.std.proofs.Math.Path.{ap}
use Rattle.std.proofs.Common.{◌∙◌, arith}
use Rattle.sequences.specs.Cuts.{cut_same, sum-cut}
use Rattle.meaning.specs.Water.{sum_of, cut_of}
use Rattle.meaning.specs.Blocks.{Time, Block, storm_rain, rain}

module _ (τ : Time) (b : Block) where
  pub rain_at_one : τ.ratio ≡ 100 → rain τ b ≡ storm_rain τ b
  unfolding rain
  rain_at_one one = ap (λ r. cut_of r 100 (storm_rain τ b)) one ∙ cut_same 100 (storm_rain τ b) (omega arith)

  pub rain_adds_up : sum_of (rain τ b) ≡ τ.ratio * sum_of (storm_rain τ b) / 100
  unfolding rain
  rain_adds_up = sum-cut τ.ratio 100 (storm_rain τ b)
