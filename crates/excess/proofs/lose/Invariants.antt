-- `excess::lose` meets its contract: a loop that puts each interval's excess in the place of its rain, with what is unfilled carried.
use Rattle.sequences.specs.Carrying.{standing}
use Rattle.excess.specs.Losses.{Losing}
use Rattle.excess.proofs.lose.Given as goal

abbrev pub invariant-loop-depth : goal.invariant-loop-depth
invariant-loop-depth l = Losing l.loss standing l.initial.rain l.rain l.unfilled.0 l.depth-index
