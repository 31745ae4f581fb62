-- `stack::join_last` meets its contract. The pairs that are left make of the stack and the words now what all of them make of those at entry.
use Prim.Native.Nat.{ℕ, suc, ◌+◌, ◌-◌, ◌*◌, ◌≤◌}
use mathlib.Core.Path.{◌≡◌, refl, ap, sym, subst, ◌∙◌}
use native.Mathlib.Omega.{arith}
use borrow.Author.Rules.{rules}
use lib.ListN.{length, length-set}
use Rattle.meaning.specs.Water.{flow_limit}
use Rattle.stack.specs.View.{Fits, view, length_held}
use Rattle.stack.specs.Joining.{joined_stack, joined_all_words, paired, view_pair, view_pairs, paired-total}
use Rattle.stack.specs.Limits.{Tops, within_tops, tops_more, tops_paired, area_paired}
use Rattle.stack.proofs.join_last.Goals as goal

pub loop-init : goal.loop-init
loop-init c =
    let s = c in
    let x = s.args in
    let v = view x.stack x.nq x.work.now in
    let one : flow_limit ≡ flow_limit * (x.n - (x.n - 1)) = omega arith in
    record {
      long = refl;
      twenty = search rules;
      few = omega arith;
      deep = omega arith;
      tops = subst (λ (most : ℕ). Tops most v) one (within_tops v s.requires.within);
      area = s.requires.work_bound;
      stack_done = refl;
      words_done = refl;
    }

pub join_pair-joined-requires : goal.join_pair-joined-requires
join_pair-joined-requires c =
    let s = c in
    let x = s.args in
    let l = c.loop in
    let v = l.invariant in
    let two : 2 ≤ l.joined.depth = omega arith in
    let fits : Fits l.joined.depth x.nq (length l.work) = record { deep = omega arith; ordinates = omega arith; enough = omega arith } in record { le_depth = (two, fits); tops = tops_more (flow_limit * (x.n - (x.n - l.counter))) 24_000_000_000_000 (view l.joined x.nq l.work) (omega arith) v.tops; work_bound = v.area }

pub loop-preserved : goal.loop-preserved
loop-preserved c =
    let q = c in
    let s = q in
    let x = s.args in
    let l = q.loop in
    let v = l.invariant in
    let r = q.join_pair-joined.ensures.0 in
    let w = q.join_pair-joined.ensures.1 in
    let hs = view l.joined x.nq l.work in
    let two : 2 ≤ l.joined.depth = omega arith in
    let fits : Fits l.joined.depth x.nq (length l.work) = record { deep = omega arith; ordinates = omega arith; enough = omega arith } in
    let pair = view_pair l.joined x.nq l.work v.twenty two fits in
    let next : view q.join_pair-joined.result x.nq q.join_pair-joined.new.work ≡ paired hs = rw (r, w) pair in
    let more : flow_limit * (x.n - (x.n - l.counter)) + flow_limit ≡ flow_limit * (x.n - (x.n - (l.counter + 1))) = omega arith in
    let one : x.n - l.counter ≡ suc (x.n - (l.counter + 1)) = omega arith in
    record {
      long = q.join_pair-joined.auto.work ∙ v.long;
      twenty = rw r (simp length-set v.twenty);
      few = omega arith;
      deep = rw r (omega arith);
      tops = rw next (subst (λ (most : ℕ). Tops most (paired hs)) more (tops_paired _ hs v.tops));
      area = rw (next, area_paired hs) v.area;
      stack_done = rw r (sym (ap (λ (j : ℕ). joined_stack j l.joined) one) ∙ v.stack_done);
      words_done = rw (r, w) (sym (ap (λ (j : ℕ). joined_all_words j l.joined.depth x.nq l.work) one) ∙ v.words_done);
    }

pub returns : goal.returns
returns c =
    let s = c in
    let x = s.args in
    let l = c.loop in
    let v = l.invariant in
    let none : x.n - l.counter ≡ 0 = omega arith in
    let r : l.joined ≡ joined_stack (x.n - 1) x.stack = ap (λ (j : ℕ). joined_stack j l.joined) (sym none) ∙ v.stack_done in
    let w : l.work ≡ joined_all_words (x.n - 1) x.stack.depth x.nq x.work.now =
    ap (λ (j : ℕ). joined_all_words j l.joined.depth x.nq l.work) (sym none) ∙ v.words_done in
    let twenty : length x.stack.areas ≡ 20 = search rules in
    let hs = view x.stack x.nq x.work.now in
    let held = view_pairs (x.n - 1) x.stack x.nq x.work.now twenty (omega arith) s.requires.fits in record { value = r; words = w; held = rw (r, w) (held ∙ paired-total x.n hs (omega arith) (omega (arith, length_held x.nq x.stack.areas x.stack.depth x.work.now))) }
