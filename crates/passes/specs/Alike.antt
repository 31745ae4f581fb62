-- Walks under different ratios read the same blocks and the same time control (proofs/Alike.antt).
use Rattle.std.specs.Prelude.{ℕ, List, length}
use Rattle.std.proofs.Math.Path.{◌≡◌}
use Rattle.meaning.specs.Blocks.{Time, ratios_of}
use Rattle.meaning.specs.Results.{Result}
use Rattle.passes.specs.Apart.{ratio_count}

pub record Alike (deck : List ℕ) (σ ρ : Time) (rs qs : List Result) : Type 0 where
  pub blocks : length rs ≡ length qs
  pub time : σ ≡ ρ
  pub ratios : ratio_count deck ≡ length (ratios_of σ)
