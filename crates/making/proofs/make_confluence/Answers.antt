-- `making::make_confluence` meets its contract: as many are joined as the block combines, by what `join_last` promises.
use mathlib.Core.Path.{◌≡◌, sym, ◌∙◌}
use mathlib.Core.List.{[]}
use native.Mathlib.Omega.{arith}
use Rattle.meaning.specs.Blocks.{combined}
use Rattle.blocks.specs.Meant.{time_is}
use Rattle.blocks.specs.Cards.{block_of}
use Rattle.blocks.specs.Values.{block_long}
use Rattle.stack.specs.View.{view}
use Rattle.stack.specs.Kinds.{after-confluence}
use Rattle.making.specs.Made.{makes_by}
use Rattle.making.specs.Kinds.{joins_read}
use Rattle.making.proofs.make_confluence.Goals as goal

pub join_last-requires : goal.join_last-requires
join_last-requires c =
    let s = c in
    let x = s.args in
    let h = s.requires.held_within in
    let added = joins_read (time_is x.time) (block_of [] x.cards.now) x.held.depth s.requires.read.cards (block_long [] x.cards.now) (s.requires.by_index []) in record { added = omega (arith, added, c.value_at-joins.ensures []); fits = h.fits; within = h.flows; work_bound = omega (arith, h.areas) }

pub returns : goal.returns
returns c = λ name.
    let s = c in
    let x = s.args in
    let τ = time_is x.time in
    let b = block_of name x.cards.now in
    let e = (s.requires.by_index name).is in
    let h = c.join_last.ensures in
    let n : c.value_at-joins.result ≡ combined b = omega (arith, c.value_at-joins.ensures name) in
    makes_by τ b x.held x.work.now e (h.value ∙ rw n) (h.words ∙ rw n) (h.held ∙ rw n (sym (after-confluence τ b (view x.held x.time.ordinates x.work.now) e)))
