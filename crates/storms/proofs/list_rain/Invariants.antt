-- `storms::list_rain` meets its contract: a loop that fills a list with a function of the place. The sum so far and that of the intervals to come are the whole.
use Prim.Native.Nat.{ℕ, ◌+◌}
use mathlib.Core.Path.{◌≡◌}
use mathlib.Core.List.{List}
use lib.ListN.{length}
use Rattle.sequences.specs.Filling.{Filled}
use Rattle.meaning.specs.Water.{sum_of, rain_of}
use Rattle.storms.specs.Rains.{depth_of, rain_from}
use Rattle.storms.proofs.list_rain.Given as goal

pub record Inv (rains rain₀ rain : List ℕ) (sum i : ℕ) : Type 0 where
  pub filled : Filled (depth_of rains) rain₀ rain i
  pub left : sum + rain_from rains (length rain₀) i ≡ sum_of (rain_of rains (length rain₀))

abbrev pub invariant-loop-i : goal.invariant-loop-i
invariant-loop-i l = Inv l.rains l.initial.rain l.rain l.sum l.i
