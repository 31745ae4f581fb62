-- No share before the interval, none behind its last unit ordinate, and between these one product.
use Prim.Native.Nat.{◌-◌, ◌*◌, ◌≤◌}
use native.Mathlib.Nat.{mul-le-mul}
use native.Mathlib.Omega.{arith}
use lib.ListN.{get_or}
use Rattle.cells.specs.Sizes.{most_depth, most_unit}
use Rattle.cells.specs.Cells.{measure_is}
use Rattle.cells.specs.Shares.{share_before, share-behind, share-falls}
use Rattle.cells.proofs.write_share.Goals as goal

pub returns-then-i-k : goal.returns-then-i-k
returns-then-i-k c =
    let x = c.args in
    rw (share_before (measure_is x.measure) x.units.now x.excess x.k x.i (omega arith)) c.write_byte.ensures

pub returns-then-units-j : goal.returns-then-units-j
returns-then-units-j c =
    let x = c.args in
    rw (share-behind (measure_is x.measure) x.units.now x.excess x.k x.i (omega arith) (omega arith)) c.write_byte-then-units-j.ensures

-- the share is far below 64 bits
pub overflow_mul-units : goal.overflow_mul-units
overflow_mul-units c =
    let x = c.args in
    let unit = get_or x.units.now (x.i - x.k) 0 in
    let product : unit * x.excess ≤ most_unit * most_depth = mul-le-mul (c.requires.0 (x.i - x.k)) c.requires.1 in
    omega arith

pub returns : goal.returns
returns c =
    let x = c.args in
    rw (share-falls (measure_is x.measure) x.units.now x.excess x.k x.i (omega arith) (omega arith)) c.write_flow.ensures
