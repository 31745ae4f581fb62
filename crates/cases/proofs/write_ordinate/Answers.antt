-- The digits alone, or a blank and the digits. A number has at most 20 digits.
use Prim.Native.Nat.{suc, ◌-◌}
use mathlib.Core.Path.{◌≡◌}
use native.Mathlib.Omega.{arith}
use Rattle.text.specs.Digits.{whole_short}
use Rattle.cases.proofs.write_ordinate.Goals as goal

pub write_whole-requires : goal.write_whole-requires
write_whole-requires c = omega (arith, whole_short 19 c.args.x (omega arith))

pub returns-then-i-eq0 : goal.returns-then-i-eq0
returns-then-i-eq0 c = rw c.if-i-eq0.true c.write_whole.ensures

pub write_number-requires : goal.write_number-requires
write_number-requires c = omega (arith, whole_short 19 c.args.x (omega arith))

pub returns : goal.returns
returns c =
    let i = c.args.i in
    let later : i ≡ suc (i - 1) = omega (arith, c.if-i-eq0.false) in
    rw later c.write_number.ensures
