-- `excess::excess_into` meets its contract: a loop that puts the excess of each interval into a list, from the rain listed for it, with what is unfilled carried.
use Prim.Native.Nat.{ℕ}
use mathlib.Core.List.{List}
use Rattle.sequences.specs.Sums.{filled_from}
use Rattle.storms.specs.Rains.{depth_of}
use Rattle.excess.specs.Losses.{Losing}
use Rattle.excess.proofs.excess_into.Given as goal

-- the rain to come is what is listed, whatever stands there
abbrev pub listed : List ℕ → ℕ → List ℕ → List ℕ
listed rains = filled_from (depth_of rains)

abbrev pub invariant-loop-i : goal.invariant-loop-i
invariant-loop-i l = Losing l.loss (listed l.rains) l.initial.excess l.excess l.unfilled.0 l.i
