-- `columns::find_losses` meets its contract: a loop that fills a list with a function of the place.
use Prim.Native.Nat.{ℕ, ◌-◌}
use lib.ListN.{get_or}
use Rattle.sequences.specs.Filling.{Filled}
use Rattle.columns.proofs.find_losses.Given as goal

abbrev pub invariant-loop-k : goal.invariant-loop-k
invariant-loop-k l = Filled (λ (i : ℕ). get_or l.rains i 0 - get_or l.excesses i 0) l.initial.losses l.losses l.k
