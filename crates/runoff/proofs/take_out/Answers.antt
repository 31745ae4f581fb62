-- `runoff::take_out` meets its contract: a loop that rewrites two lists from the front, the one with what the other still holds, the other with zeros.
use Prim.Native.Nat.{ℕ}
use mathlib.Core.Path.{refl, sym}
use native.Mathlib.Omega.{arith}
use lib.ListN.{length, get_or, replicate, length-replicate}
use Rattle.sequences.specs.Rewriting.{rewritten_more, rewritten_all}
use Rattle.sequences.specs.Zeros.{get_or_alike}
use Rattle.runoff.proofs.take_out.Goals as goal

pub overflow_cast-excess : goal.overflow_cast-excess
overflow_cast-excess c =
    let s = c in
    let l = c.loop-k in
    omega (arith, l.invariant.1.same l.k (omega arith), s.requires.all_up_to l.k)

pub loop-k-preserved : goal.loop-k-preserved
loop-k-preserved c =
    let l = c.loop-k in
    (rewritten_more _ _ _ _ _ l.invariant.0 (omega arith) (l.invariant.1.same l.k (omega arith)), rewritten_more _ _ _ _ _ l.invariant.1 (omega arith) refl)

pub returns : goal.returns
returns c =
    let s = c in
    let l = c.loop-k in
    let q₀ = s.args.q.now in
    let excess₀ = s.args.excess.now in (
      rewritten_all (λ (i : ℕ). get_or q₀ i 0) excess₀ l.excess q₀ l.k l.invariant.0 (sym s.requires.excess_len) (λ (i : ℕ) before below. refl) (λ (i : ℕ) from below. absurd (omega arith)),
      rewritten_all (λ (i : ℕ). 0) q₀ l.q (replicate (length q₀) 0) l.k l.invariant.1 (length-replicate (length q₀) 0) (λ (i : ℕ) before below. sym (get_or_alike (length q₀) i 0))
          (λ (i : ℕ) from below. absurd (omega arith)),
    )
