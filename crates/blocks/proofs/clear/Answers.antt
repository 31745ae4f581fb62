-- After each turn one head more is 0.
use mathlib.Core.Path.{◌≡◌, refl}
use native.Mathlib.Omega.{arith}
use borrow.Author.Rules.{rules}
use lib.ListN.{length-set}
use Rattle.records.specs.Rows.{items}
use Rattle.blocks.specs.Taking.{region_fits}
use Rattle.blocks.specs.Clearing.{Clear, clear_next, clear-block, clear_kept}
use Rattle.blocks.proofs.clear.Goals as goal

pub loop-item-init : goal.loop-item-init
loop-item-init c = (refl, λ p h. absurd (omega arith))

pub offset_bounds-cards-start_of : goal.offset_bounds-cards-start_of
offset_bounds-cards-start_of c = let l = c.loop-item in let f = region_fits l.item l.cards (search rules) (omega arith) in omega (arith, f, c.start_of.ensures)

pub bounds-cards-start_of : goal.bounds-cards-start_of
bounds-cards-start_of c = let l = c.loop-item in let f = region_fits l.item l.cards (search rules) (omega arith) in omega (arith, f, c.start_of.ensures)

pub loop-item-preserved : goal.loop-item-preserved
loop-item-preserved c = let l = c.loop-item in (simp length-set l.invariant.0, rw c.start_of.ensures (clear_next l.item l.cards (search rules) l.invariant.1))

pub shape_of-cards : goal.shape_of-cards
shape_of-cards c = c.loop-item.invariant.0

pub returns : goal.returns
returns c =
    let l = c.loop-item in
    let e : l.item ≡ items = omega arith in
    let all : Clear items l.cards = rw e at l.invariant.1 in
    (clear-block l.cards all, λ nq few. clear_kept l.cards all nq few (omega arith))
