-- Refusal 18, by the total: the pattern is looked at only where there is something to spread.
use Rattle.std.specs.Prelude.{◌<◌, ◌≡◌, false}
use Rattle.std.proofs.Common.{arith, lt-ltb, le-ltb}
use Rattle.meaning.specs.Words.{◌=?◌}
use Rattle.meaning.specs.Water.{sum_of}
use Rattle.meaning.specs.Blocks.{Time, Block, storm_total, listed_rain, patternless}

module _ (τ : Time) (b : Block) where
  pub no_total : storm_total b ≡ 0 → patternless τ b ≡ false
  unfolding patternless
  no_total none = rw (le-ltb 0 (storm_total b) (omega arith))

  pub some_total : 0 < storm_total b → patternless τ b ≡ (sum_of (listed_rain τ b) =? 0)
  unfolding patternless
  some_total some = rw (lt-ltb 0 (storm_total b) some)
