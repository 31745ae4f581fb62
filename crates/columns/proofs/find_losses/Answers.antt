-- `columns::find_losses` meets its contract: a loop that fills a list with a function of the place.
use native.Mathlib.Omega.{arith}
use Rattle.sequences.specs.Filling.{filled_none, filled_more, filled_all}
use Rattle.columns.proofs.find_losses.Goals as goal

pub overflow_sub-loss : goal.overflow_sub-loss
overflow_sub-loss c = omega (arith, c.requires.by_index c.loop-k.k)

pub loop-k-preserved : goal.loop-k-preserved
loop-k-preserved c = let l = c.loop-k in filled_more _ _ l.losses l.k _ l.invariant (omega arith) (omega arith)

pub loop-k-init : goal.loop-k-init
loop-k-init c = filled_none _ _

pub returns : goal.returns
returns c = filled_all _ _ _ _ c.loop-k.invariant (omega arith)
