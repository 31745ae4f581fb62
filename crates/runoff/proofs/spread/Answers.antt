-- `runoff::spread` meets its contract: a loop that rewrites a list from the front, and adds to what it has not reached. Behind the last unit ordinate nothing is added.
use Prim.Native.Nat.{ℕ, ◌+◌, ◌*◌, ◌≤◌}
use mathlib.Core.Path.{◌≡◌, sym}
use native.Mathlib.Omega.{arith}
use native.Mathlib.Nat.{mul-le-mul, zero-mul}
use lib.ListN.{length, get_or, get_or-eq_default}
use Rattle.sequences.specs.Rewriting.{rewritten_more, rewritten_all}
use Rattle.sequences.specs.Sums.{length-list_from, get_or_list}
use Rattle.runoff.specs.Rows.{spread_over}
use Rattle.runoff.proofs.spread.Goals as goal

pub overflow_add-q : goal.overflow_add-q
overflow_add-q c =
    let s = c in
    let l = c.loop-j in
    let most = mul-le-mul (s.requires.all_up_to.0 l.j) s.requires.all_up_to.1 in
    omega (arith, l.invariant.same l.j (omega arith), s.requires.by_index l.j (omega arith), most, c.share_of-share.ensures)

pub loop-j-preserved : goal.loop-j-preserved
loop-j-preserved c =
    let l = c.loop-j in
    let share = c.share_of-share.ensures in
    rewritten_more _ _ _ _ _ l.invariant (omega arith) (omega (arith, l.invariant.same l.j (omega arith), share))

pub returns : goal.returns
returns c =
    let s = c in
    let l = c.loop-j in
    let q₀ = s.args.q.now in
    let units = s.args.units.now in
    let d = s.args.excess.0 in
    let f : ℕ → ℕ = λ (i : ℕ). get_or q₀ i 0 + get_or units i 0 * d in
    rewritten_all f q₀ l.q (spread_over units d q₀) l.j l.invariant (length-list_from f 0 (length q₀))
    (λ (i : ℕ) before below. sym (get_or_list f (length q₀) i below))
    (λ (i : ℕ) from below.
    (let past : length units ≤ i = omega arith in
    let none : get_or units i 0 * d ≡ 0 = rw (get_or-eq_default units 0 past) (zero-mul d) in
    omega (arith, none, get_or_list f (length q₀) i below)))
