-- `excess::lose` meets its contract: a loop that puts each interval's excess in the place of its rain, with what is unfilled carried.
use mathlib.Core.Path.{refl}
use native.Mathlib.Omega.{arith}
use Rattle.sequences.specs.Carrying.{standing}
use Rattle.excess.specs.Losses.{losing_none, losing_more, losing_all}
use Rattle.excess.proofs.lose.Goals as goal

pub loop-depth-init : goal.loop-depth-init
loop-depth-init c = let x = c.args in losing_none x.loss standing x.rain.now

pub loop-depth-preserved : goal.loop-depth-preserved
loop-depth-preserved c =
    let x = c.args in
    let l = c.loop-depth in
    let left = c.lose_interval-left in
    losing_more x.loss standing x.rain.now l.rain l.unfilled.0 l.depth-index l.invariant _ left.result (omega arith) refl left.ensures

pub returns : goal.returns
returns c =
    let x = c.args in
    let l = c.loop-depth in
    losing_all x.loss standing x.rain.now l.rain l.unfilled.0 l.depth-index l.invariant (omega arith) refl
