-- The part has four bytes.
use Prim.Native.Nat.{◌+◌, ◌-◌}
use mathlib.Core.Path.{◌≡◌}
use native.Mathlib.Omega.{arith}
use Rattle.slices.proofs.number_at.Goals as goal

pub returns : goal.returns
returns c =
    let at = c.args.at in
    let n : at + 4 - at ≡ 4 = omega arith in
    rw n at c.read_le.ensures.number
