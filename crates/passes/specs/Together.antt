-- The ratios of a deck. That all worked together line by line come to what a walk for each does: proofs/Together.antt, together_apart.
--     some_ratio, ratio-at    a deck has some, and the one at a place is among them
use Rattle.std.specs.Prelude.{ℕ, zero, suc, ◌<◌, ◌≡◌, refl, List, [], ◌∷◌, length, get_or}
use Rattle.std.proofs.Common.{arith}
use Rattle.meaning.specs.Blocks.{Time, or_whole, ratios_of, ratio_at}

-- THE RATIOS OF A DECK: some, and the one at a place is among them.
pub some_ratio : (τ : Time) → 0 < length (ratios_of τ)
some_ratio τ = go τ.listed
  where
    go : (rs : List ℕ) → 0 < length (or_whole rs)
    go [] = omega arith
    go (r ∷ rs) = omega arith

pub ratio-at : (k : ℕ) (τ : Time) → ratio_at k τ ≡ get_or (ratios_of τ) k 100
ratio-at k τ = go τ.listed k
  where
    go : (rs : List ℕ) (k : ℕ) → get_or rs k 100 ≡ get_or (or_whole rs) k 100
    go [] zero = refl
    go [] (suc k) = refl
    go (r ∷ rs) k = refl
