-- Three depths, one behind another, each within its cell.
use native.Mathlib.Omega.{arith}
use Rattle.text.specs.Written.{written_more}
use Rattle.cells.specs.Cells.{measure_is}
use Rattle.cells.specs.Room.{depth_short}
use Rattle.cells.proofs.write_depths.Goals as goal

pub write_depth-third-requires : goal.write_depth-third-requires
write_depth-third-requires c =
    let x = c.args in
    (omega arith, omega (arith, depth_short (measure_is x.measure) x.rain))

pub write_depth-requires : goal.write_depth-requires
write_depth-requires c =
    let x = c.args in
    (omega arith, omega (arith, depth_short (measure_is x.measure) x.rain, depth_short (measure_is x.measure) x.loss))

pub returns : goal.returns
returns c =
    let x = c.args in
    let first = depth_short (measure_is x.measure) x.rain in
    let second = depth_short (measure_is x.measure) x.loss in
    written_more (omega arith) (written_more (omega arith) c.write_depth-second.ensures c.write_depth-third.ensures) c.write_depth.ensures
