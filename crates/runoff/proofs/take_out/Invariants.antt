-- `runoff::take_out` meets its contract: a loop that rewrites two lists from the front, the one with what the other still holds, the other with zeros.
use Prim.Native.Nat.{ℕ}
use lib.ListN.{get_or}
use Rattle.sequences.specs.Rewriting.{Rewritten}
use Rattle.runoff.proofs.take_out.Given as goal

abbrev pub invariant-loop-k : goal.invariant-loop-k
invariant-loop-k l = Rewritten (λ (i : ℕ). get_or l.initial.q i 0) l.initial.excess l.excess l.k × Rewritten (λ (i : ℕ). 0) l.initial.q l.q l.k
