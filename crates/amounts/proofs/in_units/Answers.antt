-- Each way out is one way through the definition's tests.
use Rattle.std.proofs.Common.{rules}
use native.Mathlib.Omega.{arith}
use mathlib.Core.Logic.{⊎_elim}
use Prim.Native.Nat.{◌-◌}
use Rattle.amounts.specs.Units.{too_many-places, below_zero, not_below, minus_zero, units_below}
use Rattle.amounts.proofs.in_units.Goals as goal

pub returns-then-allowed-number : goal.returns-then-allowed-number
returns-then-allowed-number c = let n = c.args.number in too_many-places c.args.allowed n.minus n.digits n.places c.if-allowed-number.true

pub returns-then-number-gt0 : goal.returns-then-number-gt0
returns-then-number-gt0 c = below_zero _ _ _ _ c.if-allowed-number.false c.if-number.true c.if-number-gt0.true

pub overflow_mul-result : goal.overflow_mul-result
overflow_mul-result c =
    let n = c.args.number in
    rw c.ten_to.ensures (omega (arith, units_below n.digits (c.args.allowed - n.places) (search rules) (search rules)))

pub returns : goal.returns
returns c =
    let few = c.if-allowed-number.false in
    rw c.ten_to.ensures (⊎_elim (λ h. minus_zero _ _ _ _ few h.1) (λ h. not_below _ _ _ _ few h) c.else-number.either)
