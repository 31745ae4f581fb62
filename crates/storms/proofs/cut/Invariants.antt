-- `storms::cut` meets its contract. The first i elements are their pieces, the rest is as it was, and the share of the running sum is at hand for the next piece.
use Prim.Native.Nat.{ℕ, ◌+◌, ◌*◌, ◌/◌}
use mathlib.Core.Path.{◌≡◌}
use mathlib.Core.List.{List}
use lib.ListN.{drop}
use Rattle.sequences.specs.Carrying.{carried, standing, Carrying}
use Rattle.sequences.specs.Cuts.{piece}
use Rattle.meaning.specs.Water.{sum_of}
use Rattle.storms.proofs.cut.Given as goal

pub record Inv (n d : ℕ) (xs₀ xs : List ℕ) (sum before i : ℕ) : Type 0 where
  pub left : sum + sum_of (drop i xs) ≡ sum_of xs₀
  pub share : before ≡ n * sum / d
  pub cutting : Carrying (piece n d) ◌+◌ standing xs₀ (carried (piece n d) ◌+◌ 0 xs₀) xs sum i

abbrev pub invariant-loop-x : goal.invariant-loop-x
invariant-loop-x l = Inv l.n l.d l.initial.xs l.xs l.sum l.before l.x-index
