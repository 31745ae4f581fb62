-- `stack::hold_basin` meets its contract: the part that was lent comes back as the runoff, and the law of one more held gives the rest.
use mathlib.Core.Path.{◌≡◌}
use native.Mathlib.Omega.{arith}
use borrow.Author.Rules.{rules}
use lib.ListN.{length}
use Rattle.runoff.specs.Storm.{storm_runoff, length_runoff}
use Rattle.stack.specs.View.{hold_law}
use Rattle.stack.proofs.hold_basin.Goals as goal

pub returns : goal.returns
returns c =
    let s = c in
    let x = s.args in
    let twenty : length x.stack.areas ≡ 20 = search rules in
    let r = c.push.ensures in
    let runoff = storm_runoff x.units.now x.rains.now x.storm in
    let law = hold_law x.stack x.nq x.area x.work.now _ runoff twenty s.requires.fits (length_runoff x.units.now x.rains.now x.storm) in
    let held = law _ c.runoff_into.ensures (omega arith) in record { value = r; words = held.0; held = rw r held.1 }
