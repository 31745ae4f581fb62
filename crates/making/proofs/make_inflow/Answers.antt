-- `making::make_inflow` meets its contract: the flows that the block lists are held, by what `hold_inflow` promises.
use mathlib.Core.Path.{refl, sym, ap, ◌∙◌}
use Prim.Native.Nat.{ℕ}
use mathlib.Core.List.{List, []}
use native.Mathlib.Omega.{arith}
use lib.ListN.{get_or}
use Rattle.meaning.specs.Records.{QI}
use Rattle.meaning.specs.Blocks.{Inflow}
use Rattle.blocks.specs.Meant.{time_is}
use Rattle.blocks.specs.Cards.{block_of}
use Rattle.stack.specs.View.{view}
use Rattle.stack.specs.Kinds.{after-inflow}
use Rattle.making.specs.Made.{makes_by}
use Rattle.making.specs.Kinds.{room_for_one}
use Rattle.making.proofs.make_inflow.Goals as goal

pub hold_inflow-requires : goal.hold_inflow-requires
hold_inflow-requires c =
    let s = c in
    let x = s.args in
    let b = block_of [] x.cards.now in
    let room = room_for_one {k = Inflow} (time_is x.time) b _ _ refl (s.requires.by_index []) s.requires.held_within.fits in record { fits = room; all_up_to = λ (k : ℕ). omega (arith, ap (λ (q : List ℕ). get_or q k 0) (c.values-values.ensures []), (s.requires.read.cards QI).high k) }

pub returns : goal.returns
returns c = λ name.
    let s = c in
    let x = s.args in
    let τ = time_is x.time in
    let b = block_of name x.cards.now in
    let e = (s.requires.by_index name).is in
    let h = c.hold_inflow.ensures in
    let flows = c.values-values.ensures name in
    let area = c.area_of-area.ensures name in
    makes_by τ b x.held x.work.now e (h.value ∙ rw area) (h.words ∙ rw flows) (h.held ∙ rw (area, flows) (sym (after-inflow τ b (view x.held x.time.ordinates x.work.now) e)))
