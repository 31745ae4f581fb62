-- `stack::hold_inflow` meets its contract: the part that was lent comes back as the inflow, and the law of one more held gives the rest.
use mathlib.Core.Path.{◌≡◌}
use native.Mathlib.Omega.{arith}
use borrow.Author.Rules.{rules}
use lib.ListN.{length}
use Rattle.meaning.specs.Water.{inflow_of}
use Rattle.runoff.specs.Storm.{length-inflow}
use Rattle.stack.specs.View.{hold_law}
use Rattle.stack.proofs.hold_inflow.Goals as goal

pub returns : goal.returns
returns c =
    let s = c in
    let x = s.args in
    let twenty : length x.stack.areas ≡ 20 = search rules in
    let r = c.push.ensures in
    let law = hold_law x.stack x.nq x.area x.work.now _ (inflow_of x.values.now) twenty s.requires.fits (length-inflow x.values.now) in
    let held = law _ c.inflow_into.ensures (omega arith) in record { value = r; words = held.0; held = rw r held.1 }
