-- `storms::cut` meets its contract. The first i elements are their pieces, the rest is as it was, and the share of the running sum is at hand for the next piece.
use Prim.Native.Nat.{ℕ, suc, ◌≤◌, ◌+◌, ◌-◌, ◌*◌, ◌/◌}
use mathlib.Core.Path.{◌≡◌, refl, sym, ap, ◌∙◌}
use native.Mathlib.Nat.{mul-zero, zero-div, le_refl}
use native.Mathlib.Numerals.{add-one}
use native.Mathlib.Omega.{arith}
use lib.ListN.{drop, get_or, set}
use lib.Seq.{drop-set-lt}
use Rattle.sequences.specs.Carrying.{standing, carrying_none, carrying_more, carrying_all}
use Rattle.sequences.specs.Sums.{sum_of-drop}
use Rattle.sequences.specs.Cuts.{piece, cut_rises, cut_pieces}
use Rattle.storms.specs.Rains.{share_fits}
use Rattle.storms.proofs.cut.Goals as goal

pub loop-x-init : goal.loop-x-init
loop-x-init c =
    let x = c.args in
    let none : 0 ≡ x.n * 0 / x.d = sym (ap (λ (m : ℕ). m / x.d) (mul-zero x.n) ∙ zero-div x.d) in
    record { left = omega arith; share = none; cutting = carrying_none (piece x.n x.d) ◌+◌ standing x.xs.now 0 }

-- the running sum is at most the whole
pub overflow_add-sum : goal.overflow_add-sum
overflow_add-sum c =
    let l = c.loop-x in
    omega (arith, l.invariant.left, sum_of-drop l.xs l.x-index (omega arith), c.requires.sum)

pub overflow_mul-share : goal.overflow_mul-share
overflow_mul-share c =
    let l = c.loop-x in
    let s = c in
    let low : l.sum + get_or l.xs l.x-index 0 ≤ 3_600_000_000 = omega (arith, l.invariant.left, sum_of-drop l.xs l.x-index (omega arith), s.requires.sum) in
    omega (arith, share_fits s.args.n (l.sum + get_or l.xs l.x-index 0) s.requires.share low)

-- no piece is below zero
pub overflow_sub-x : goal.overflow_sub-x
overflow_sub-x c =
    let l = c.loop-x in
    let x = c.args in
    omega (arith, l.invariant.share, cut_rises x.n x.d l.sum (get_or l.xs l.x-index 0))

pub loop-x-preserved : goal.loop-x-preserved
loop-x-preserved c =
    let l = c.loop-x in
    let x = c.args in
    let v = l.invariant in
    let depth = get_or l.xs l.x-index 0 in
    let cut_off = x.n * (l.sum + depth) / x.d - l.before in
    let rest : drop (l.x-index + 1) (set l.xs l.x-index cut_off) ≡ drop (l.x-index + 1) l.xs = rw add-one (drop-set-lt (suc l.x-index) l.xs l.x-index cut_off (le_refl (suc l.x-index))) in
    let turn = carrying_more (piece x.n x.d) ◌+◌ standing x.xs.now _ l.xs l.sum l.x-index v.cutting in
    record {
      left = rw rest (omega (arith, v.left, sum_of-drop l.xs l.x-index (omega (arith, v.cutting.long))));
      share = omega arith;
      cutting = turn depth cut_off (l.sum + depth) (omega (arith, v.cutting.long)) refl (rw v.share) refl;
    }

pub returns : goal.returns
returns c =
    let x = c.args in
    let l = c.loop-x in
    carrying_all (piece x.n x.d) ◌+◌ standing x.xs.now _ l.xs l.sum l.x-index l.invariant.cutting (omega (arith, l.invariant.cutting.long)) refl
    ∙ sym (cut_pieces x.n x.d x.xs.now)
