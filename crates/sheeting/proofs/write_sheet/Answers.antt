-- The kind that is found is the block's, and kind 1 is runoff.
use Rattle.std.proofs.Common.{◌∙◌, ap}
use Rattle.meaning.specs.Blocks.{kind_number}
use Rattle.blocks.specs.Meant.{time_is, name_is}
use Rattle.blocks.specs.Cards.{block_of}
use Rattle.sheeting.specs.Texts.{runoff_sheet, no_sheet}
use Rattle.sheeting.proofs.write_sheet.Goals as goal

pub returns-then-kind-eq1 : goal.returns-then-kind-eq1
returns-then-kind-eq1 c =
    let x = c.args in
    let told = c.number_of-kind.ensures ∙ ap kind_number (c.kind_of.ensures (name_is x.name)) in
    let one = runoff_sheet (time_is x.time) (block_of (name_is x.name) x.cards.now) c.number_of-kind.result told c.if-kind-eq1.true in
    rw one c.write_runoff.ensures

pub returns : goal.returns
returns c =
    let x = c.args in
    let told = c.number_of-kind.ensures ∙ ap kind_number (c.kind_of.ensures (name_is x.name)) in
    let none = no_sheet (time_is x.time) (block_of (name_is x.name) x.cards.now) c.number_of-kind.result told c.if-kind-eq1.false in
    rw none c.write_no_sheet.ensures
