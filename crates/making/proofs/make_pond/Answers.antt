-- The last held goes through the pool of the block's own table, by what `pond_last` promises.
use mathlib.Core.Path.{◌≡◌, refl, sym, ◌∙◌}
use mathlib.Core.List.{[]}
use native.Mathlib.Omega.{arith}
use Rattle.meaning.specs.Pool.{rows_of}
use Rattle.meaning.specs.Records.{SV}
use Rattle.meaning.specs.Blocks.{pond_rows}
use Rattle.blocks.specs.Meant.{time_is}
use Rattle.blocks.specs.Cards.{block_of}
use Rattle.blocks.specs.Values.{values_few}
use Rattle.stack.specs.View.{view}
use Rattle.stack.specs.Kinds.{after-pond}
use Rattle.shaping.specs.Shapes.{takes-by, shaped_passes, pond_shaped}
use Rattle.making.specs.Made.{makes_by, all_by}
use Rattle.making.proofs.make_pond.Goals as goal

pub pond_last-overtopped-requires : goal.pond_last-overtopped-requires
pond_last-overtopped-requires c =
    let x = c.args in
    let τ = time_is x.time in
    let b = block_of [] x.cards.now in
    let read = c.requires.read in
    let passes = shaped_passes τ b x.held.depth (c.requires.by_index []) in
    let few = values_few SV [] x.cards.now (omega arith) read.words.long in
    let table = pond_shaped τ b x.held.depth (c.requires.by_index []) read.time read.cards few in
    record { le_depth = (passes.enough, c.requires.held_within.fits); within = c.requires.held_within.flows; pond_table = rw (c.values-svs.ensures [], c.values-sqs.ensures []) table }

pub returns-then-overtopped : goal.returns-then-overtopped
returns-then-overtopped c = λ name.
    let x = c.args in
    let τ = time_is x.time in
    let b = block_of name x.cards.now in
    let e = (c.requires.by_index name).is in
    let held = view x.held x.time.ordinates x.work.now in
    let h = c.pond_last-overtopped.ensures in
    let rows : rows_of c.values-svs.result.now c.values-sqs.result.now ≡ pond_rows b = rw (c.values-svs.ensures name, c.values-sqs.ensures name) in
    let makes = makes_by τ b x.held x.work.now e refl (h.words ∙ rw rows) (h.held ∙ rw rows (sym (after-pond τ b held e))) in
    all_by τ b x.held x.work.now e _ (sym c.if-overtopped.true ∙ h.value ∙ rw (rows, takes-by b e)) makes

pub returns : goal.returns
returns c = λ name.
    let x = c.args in
    let τ = time_is x.time in
    let b = block_of name x.cards.now in
    let e = (c.requires.by_index name).is in
    let held = view x.held x.time.ordinates x.work.now in
    let h = c.pond_last-overtopped.ensures in
    let rows : rows_of c.values-svs.result.now c.values-sqs.result.now ≡ pond_rows b = rw (c.values-svs.ensures name, c.values-sqs.ensures name) in
    let makes = makes_by τ b x.held x.work.now e refl (h.words ∙ rw rows) (h.held ∙ rw rows (sym (after-pond τ b held e))) in
    all_by τ b x.held x.work.now e _ (sym c.if-overtopped.false ∙ h.value ∙ rw (rows, takes-by b e)) makes
