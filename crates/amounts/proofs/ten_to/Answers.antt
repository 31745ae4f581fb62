-- Each arm's number is the power that its key names; the last arm's key is 4.
use native.Mathlib.Omega.{arith}
use mathlib.Core.Path.{◌≡◌}
use Rattle.amounts.proofs.ten_to.Goals as goal

pub returns-in-0 : goal.returns-in-0
returns-in-0 c = rw c.in-0.is (omega arith)

pub returns-in-1 : goal.returns-in-1
returns-in-1 c = rw c.in-1.is (omega arith)

pub returns-in-2 : goal.returns-in-2
returns-in-2 c = rw c.in-2.is (omega arith)

pub returns-in-3 : goal.returns-in-3
returns-in-3 c = rw c.in-3.is (omega arith)

pub returns-in_default : goal.returns-in_default
returns-in_default c =
    let h : c.args.k ≡ 4 = omega arith in
    rw h (omega arith)
