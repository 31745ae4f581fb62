-- `runoff::spread` meets its contract: a loop that rewrites a list from the front, and adds to what it has not reached. Behind the last unit ordinate nothing is added.
use Prim.Native.Nat.{ℕ, ◌+◌, ◌*◌}
use lib.ListN.{get_or}
use Rattle.sequences.specs.Rewriting.{Rewritten}
use Rattle.runoff.proofs.spread.Given as goal

abbrev pub invariant-loop-j : goal.invariant-loop-j
invariant-loop-j l = Rewritten (λ (i : ℕ). get_or l.initial.q i 0 + get_or l.units i 0 * l.excess.0) l.initial.q l.q l.j
