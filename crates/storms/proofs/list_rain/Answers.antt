-- `storms::list_rain` meets its contract: a loop that fills a list with a function of the place. The sum so far and that of the intervals to come are the whole.
use native.Mathlib.Omega.{arith}
use lib.ListN.{length}
use Rattle.sequences.specs.Filling.{filled_none, filled_more, filled_all}
use Rattle.meaning.specs.Water.{rain_of}
use Rattle.storms.specs.Rains.{rain-sum, rain-whole, rain-next, rain_past}
use Rattle.storms.proofs.list_rain.Goals as goal

pub loop-i-init : goal.loop-i-init
loop-i-init c =
    let x = c.args in
    record { filled = filled_none _ x.rain.now; left = omega (arith, rain-whole x.rains.now (length x.rain.now)) }

pub overflow_add-sum : goal.overflow_add-sum
overflow_add-sum c =
    let s = c in
    let l = c.loop-i in
    let rains = s.args.rains.now in
    let n = length s.args.rain.now in
    omega (arith, l.invariant.left, rain-next rains n l.i (omega arith), rain-sum rains s.requires.all_up_to n s.requires.rain_len_bound, c.rain_at.ensures)

pub loop-i-preserved : goal.loop-i-preserved
loop-i-preserved c =
    let s = c in
    let l = c.loop-i in
    let rains = s.args.rains.now in
    let depth = c.rain_at.ensures in
    record {
      filled = filled_more _ _ l.rain l.i _ l.invariant.filled (omega arith) depth;
      left = omega (arith, l.invariant.left, rain-next rains (length s.args.rain.now) l.i (omega arith), depth);
    }

pub returns : goal.returns
unfolding rain_of
returns c =
    let x = c.args in
    let l = c.loop-i in
    let none = rain_past x.rains.now (length x.rain.now) l.i (omega arith) in record { rain_after = filled_all _ _ _ _ l.invariant.filled (omega arith); added = omega (arith, l.invariant.left, none) }
