-- `stack::add_from` meets its contract. The first i ordinates are added, and the loop still reads the rest as it was at entry.
use Prim.Native.Nat.{ℕ, ◌≤◌, ◌-◌}
use mathlib.Core.Path.{◌≡◌}
use mathlib.Core.List.{List, ◌++◌}
use lib.ListN.{length, take, drop, get_or}
use Rattle.sequences.specs.Parts.{part}
use Rattle.meaning.specs.Water.{plus}
use Rattle.stack.proofs.add_from.Given as goal

pub record Inv (s₀ : List ℕ) (from n : ℕ) (s : List ℕ) (i : ℕ) : Type 0 where
  pub up : i ≤ n
  pub long : length s ≡ length s₀
  pub same : (k : ℕ) → i ≤ k → get_or s k 0 ≡ get_or s₀ k 0
  pub done : take i s ++ plus (drop i (part from n s₀)) (drop i s) ≡ plus (part from n s₀) s₀

abbrev pub invariant-loop-i : goal.invariant-loop-i
invariant-loop-i l = Inv l.initial.s l.from l.n l.s l.i
