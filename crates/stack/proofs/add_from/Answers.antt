-- `stack::add_from` meets its contract. The first i ordinates are added, and the loop still reads the rest as it was at entry.
use Prim.Native.Nat.{ℕ, ◌+◌}
use mathlib.Core.Path.{◌≡◌, refl, sym, ◌∙◌}
use native.Mathlib.Omega.{arith}
use lib.ListN.{length, drop, get_or, length-set}
use Rattle.sequences.specs.Parts.{part, length_part, get_d_part}
use Rattle.sequences.specs.Overwriting.{overwrite_rest}
use Rattle.meaning.specs.Water.{plus}
use Rattle.stack.specs.Adding.{plus_turn, rest_as_it_was, plus_done}
use Rattle.stack.proofs.add_from.Goals as goal

pub loop-i-init : goal.loop-i-init
loop-i-init c = record { up = omega arith; long = refl; same = λ (k : ℕ) h. refl; done = refl }

pub overflow_add-s : goal.overflow_add-s
overflow_add-s c =
    let l = c.loop-i in
    let s = c in
    omega
    (arith, l.invariant.same l.i (omega arith), l.invariant.same (s.args.from + l.i) (omega arith), s.requires.by_index l.i (omega arith))

pub loop-i-preserved : goal.loop-i-preserved
loop-i-preserved c =
    let l = c.loop-i in
    let s = c in
    let v = l.invariant in
    let from = s.args.from in
    let n = s.args.n in
    let s₀ = s.args.s.now in
    let xs = part from n s₀ in
    let long : length xs ≡ n = length_part from n s₀ (omega arith) in
    let x : get_or xs l.i 0 ≡ get_or l.s (from + l.i) 0 = get_d_part from n s₀ l.i (omega arith) ∙ sym (v.same (from + l.i) (omega arith)) in
    record {
      up = omega arith;
      long = simp length-set v.long;
      same = rest_as_it_was l.s s₀ l.i _ _ (omega arith) v.same;
      done = plus_turn xs l.s l.i _ _ (omega arith) (omega arith) (omega arith) (omega arith) ∙ v.done;
    }

pub returns : goal.returns
returns c =
    let l = c.loop-i in
    let s = c in
    let xs = part s.args.from s.args.n s.args.s.now in
    let long : length xs ≡ s.args.n = length_part s.args.from s.args.n s.args.s.now (omega arith) in
    sym (overwrite_rest (plus (drop l.i xs)) l.s l.i (plus_done xs _ l.i (omega arith))) ∙ l.invariant.done
