-- `stack::join_last` meets its contract. The pairs that are left make of the stack and the words now what all of them make of those at entry.
use Prim.Native.Nat.{ℕ, ◌+◌, ◌-◌, ◌*◌, ◌≤◌, ◌<◌}
use mathlib.Core.Path.{◌≡◌}
use mathlib.Core.List.{List}
use lib.ListN.{length}
use Rattle.meaning.specs.Water.{flow_limit}
use Rattle.meaning.specs.Blocks.{total}
use Rattle.stack.specs.declared.Stack.{Stack}
use Rattle.stack.specs.View.{view}
use Rattle.stack.specs.Joining.{joined_stack, joined_all_words}
use Rattle.stack.specs.Limits.{Tops}
use Rattle.stack.proofs.join_last.Given as goal

pub record Inv (work₀ : List ℕ) (nq n : ℕ) (stack : Stack) (work : List ℕ) (joined : Stack) (left : ℕ) : Type 0 where
  pub long : length work ≡ length work₀
  pub twenty : length joined.areas ≡ 20
  pub few : left < n
  pub deep : joined.depth ≡ stack.depth - (n - 1) + left
  pub tops : Tops (flow_limit * (n - left)) (view joined nq work)
  pub area : (total (view joined nq work)).area ≤ 199_999_800
  pub stack_done : joined_stack left joined ≡ joined_stack (n - 1) stack
  pub words_done : joined_all_words left joined.depth nq work ≡ joined_all_words (n - 1) stack.depth nq work₀

abbrev pub invariant-loop : goal.invariant-loop
invariant-loop l = Inv l.initial.work l.nq l.n l.initial.joined l.work l.joined (l.n - l.counter)
