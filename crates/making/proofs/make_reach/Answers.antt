-- `making::make_reach` meets its contract: the last held is routed by the block's own numbers, by what `route_last` promises.
use mathlib.Core.Path.{refl, sym, ◌∙◌}
use mathlib.Core.List.{[]}
use Prim.Native.Nat.{◌≤◌}
use native.Mathlib.Omega.{arith}
use Rattle.blocks.specs.Meant.{time_is}
use Rattle.blocks.specs.Cards.{block_of}
use Rattle.blocks.specs.Values.{block_long}
use Rattle.stack.specs.View.{view}
use Rattle.stack.specs.Kinds.{after-reach}
use Rattle.shaping.specs.Shapes.{shaped_passes, reach_shaped}
use Rattle.making.specs.Made.{makes_by}
use Rattle.making.specs.Kinds.{same_reach}
use Rattle.making.proofs.make_reach.Goals as goal

pub route_last-requires : goal.route_last-requires
route_last-requires c =
    let s = c in
    let x = s.args in
    let τ = time_is x.time in
    let b = block_of [] x.cards.now in
    let read = s.requires.read in
    let o = c.reach_of-reach.ensures [] in
    let some : 1 ≤ x.held.depth = (shaped_passes τ b x.held.depth (s.requires.by_index [])).enough in
    let reach = reach_shaped τ b x.held.depth (s.requires.by_index []) read.time read.cards (block_long [] x.cards.now) in record { le_depth = (some, s.requires.held_within.fits); within = s.requires.held_within.flows; reach = same_reach reach _ _ _ (omega (arith, o)) (omega (arith, o)) (omega (arith, o)) }

pub returns : goal.returns
returns c = λ name.
    let s = c in
    let x = s.args in
    let τ = time_is x.time in
    let b = block_of name x.cards.now in
    let e = (s.requires.by_index name).is in
    let h = c.route_last.ensures in
    let o = c.reach_of-reach.ensures name in
    makes_by τ b x.held x.work.now e refl (h.work_after ∙ rw (o.0, o.1, o.2)) (h.held ∙ rw (o.0, o.1, o.2) (sym (after-reach τ b (view x.held x.time.ordinates x.work.now) e)))
