-- After each turn the number is that of the cards from the place reached on.
use Prim.Native.Nat.{◌+◌, ◌-◌}
use mathlib.Core.Path.{◌≡◌, sym}
use mathlib.Core.List.{[]}
use native.Mathlib.Omega.{arith}
use native.Mathlib.Nat.{le_refl}
use Rattle.records.specs.Rows.{items}
use Rattle.kinds.specs.Masks.{mask_next, mask_end, mask_small}
use Rattle.kinds.proofs.mask_of.Goals as goal

pub loop-item-init : goal.loop-item-init
loop-item-init c = sym (mask_end [] c.args.cards.now items (le_refl items))

pub overflow_mul-mask : goal.overflow_mul-mask
overflow_mul-mask c = let l = c.loop-item in omega (arith, l.invariant, mask_small [] c.args.cards.now l.item)

pub overflow_add-mask : goal.overflow_add-mask
overflow_add-mask c = let l = c.loop-item in omega (arith, l.invariant, mask_small [] c.args.cards.now l.item, c.bit_at.ensures.1)

pub loop-item-preserved : goal.loop-item-preserved
loop-item-preserved c =
    let l = c.loop-item in
    let w = c.args.cards.now in
    let e : l.item - 1 + 1 ≡ l.item = omega arith in
    let next = rw e at (mask_next [] w (l.item - 1) (omega arith)) in
    omega (arith, next, l.invariant, c.bit_at.ensures.0 [])
