-- Each arm is the promise of the function that it calls. Of a block that is no pond no pool can rise.
use mathlib.Core.Path.{◌≡◌, refl}
use Rattle.meaning.specs.Blocks as blocks
use Rattle.blocks.specs.Meant.{time_is}
use Rattle.blocks.specs.Cards.{block_of}
use Rattle.making.specs.Made.{all_dry}
use Rattle.making.proofs.make.Goals as goal

pub returns-in-Basin : goal.returns-in-Basin
returns-in-Basin c = λ name.
    let x = c.args in
    let is : blocks.kind_of (block_of name x.cards.now) ≡ blocks.Basin = rw c.in-Basin.is at (c.requires.by_index name).is in
    all_dry (time_is x.time) (block_of name x.cards.now) x.held x.work.now is refl (c.make_basin.ensures name)

pub returns-in-Inflow : goal.returns-in-Inflow
returns-in-Inflow c = λ name.
    let x = c.args in
    let is : blocks.kind_of (block_of name x.cards.now) ≡ blocks.Inflow = rw c.in-Inflow.is at (c.requires.by_index name).is in
    all_dry (time_is x.time) (block_of name x.cards.now) x.held x.work.now is refl (c.make_inflow.ensures name)

pub returns-in-Confluence : goal.returns-in-Confluence
returns-in-Confluence c = λ name.
    let x = c.args in
    let is : blocks.kind_of (block_of name x.cards.now) ≡ blocks.Confluence = rw c.in-Confluence.is at (c.requires.by_index name).is in
    all_dry (time_is x.time) (block_of name x.cards.now) x.held x.work.now is refl (c.make_confluence.ensures name)

pub returns-in-Reach : goal.returns-in-Reach
returns-in-Reach c = λ name.
    let x = c.args in
    let is : blocks.kind_of (block_of name x.cards.now) ≡ blocks.Reach = rw c.in-Reach.is at (c.requires.by_index name).is in
    all_dry (time_is x.time) (block_of name x.cards.now) x.held x.work.now is refl (c.make_reach.ensures name)
