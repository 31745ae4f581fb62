-- A record of a block is due in a block alone; outside its limits, or as taking it in says.
use Rattle.std.specs.Prelude.{◌≡◌, ℕ, Bool, true, false, [], Result, Ok, Err}
use Rattle.meaning.specs.Words.{met}
use Rattle.refusals.specs.declared.Refusal.{Refusal}
use Rattle.refusals.specs.declared.Refusal.TheVariants.{TooManyValues}
use Rattle.std.proofs.Common.{arith, refl}
use Rattle.blocks.specs.Meant.{time_is}
use Rattle.scanning.specs.Scans.{scanned_of}
use Rattle.placing.specs.declared.Phase.TheVariants as phase
use Rattle.placing.specs.Places.{Due, due_inside}
use Rattle.taking.specs.Taken.{item_outside, item_line}
use Rattle.taking.proofs.take_item.Goals as goal

pub returns-then-scan : goal.returns-then-scan
returns-then-scan c =
    let x = c.args in
    let place = due_inside x.r.phase (time_is x.r.time) x.item x.cards.now c.requires.item_lt.2 c.requires.item_lt.0 in
    item_outside x.r x.item (scanned_of x.values.now x.scan) x.cards.now place (rw place at c.requires.item_lt.2) c.if-scan.true

pub take_values-requires : goal.take_values-requires
take_values-requires c =
    let x = c.args in
    let place = due_inside x.r.phase (time_is x.r.time) x.item x.cards.now c.requires.item_lt.2 c.requires.item_lt.0 in
    let due : Due phase.InBlock (time_is x.r.time) x.item x.cards.now = rw place at c.requires.item_lt.2 in
    let read = c.requires.passed.read in
    record { item_lt = (c.requires.item_lt.0, omega (arith, read.few), omega (arith, read.ten)); by_index = due.1; counted = c.requires.item_lt.1.counted place }

pub returns : goal.returns
returns c =
    let x = c.args in
    let place = due_inside x.r.phase (time_is x.r.time) x.item x.cards.now c.requires.item_lt.2 c.requires.item_lt.0 in
    item_line x.r x.item (scanned_of x.values.now x.scan) x.cards.now c.if-scan.false c.requires.item_lt.1 place (rw place at c.requires.item_lt.2)
    c.take_values.result c.take_values.new.cards c.take_values.ensures
