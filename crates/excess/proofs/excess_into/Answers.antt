-- `excess::excess_into` meets its contract: a loop that puts the excess of each interval into a list, from the rain listed for it, with what is unfilled carried.
use mathlib.Core.Path.{refl, ap, ◌∙◌}
use native.Mathlib.Omega.{arith}
use Rattle.sequences.specs.Sums.{filled_list}
use Rattle.meaning.specs.Water.{rain_of}
use Rattle.storms.specs.Rains.{depth_of}
use Rattle.excess.specs.Losses.{excess_by, losing_none, losing_more, losing_all}
use Rattle.excess.proofs.excess_into.Invariants.{listed}
use Rattle.excess.proofs.excess_into.Goals as goal

pub loop-i-init : goal.loop-i-init
loop-i-init c = let x = c.args in losing_none x.loss (listed x.rains.now) x.excess.now

pub loop-i-preserved : goal.loop-i-preserved
loop-i-preserved c =
    let x = c.args in
    let l = c.loop-i in
    let rain = c.rain_at in
    let left = c.lose_interval-left in
    losing_more x.loss (listed x.rains.now) x.excess.now l.excess l.unfilled.0 l.i l.invariant rain.result.0 left.result (omega arith)
    (rw rain.ensures) left.ensures

pub returns : goal.returns
unfolding rain_of
returns c =
    let x = c.args in
    let l = c.loop-i in
    losing_all x.loss (listed x.rains.now) x.excess.now l.excess l.unfilled.0 l.i l.invariant (omega arith) refl
    ∙ ap (excess_by x.loss) (filled_list (depth_of x.rains.now) 0 x.excess.now)
