-- `runoff::inflow_into` meets its contract: a loop that fills a list with a function of the place.
use native.Mathlib.Omega.{arith}
use Rattle.sequences.specs.Filling.{filled_none, filled_more}
use Rattle.runoff.proofs.inflow_into.Goals as goal

pub loop-i-preserved : goal.loop-i-preserved
loop-i-preserved c =
    let l = c.loop-i in
    filled_more _ _ l.q l.i _ l.invariant (omega arith) (omega (arith, c.flow_of-inflow.ensures, c.value_at.ensures))

pub loop-i-init : goal.loop-i-init
loop-i-init c = filled_none _ c.args.q.now
