-- `writing::copy_last` meets its contract: without room the ordinates stay, and with room the words of the last place come in front.
use Prim.Native.Nat.{ℕ, ◌<◌, ◌≤◌}
use mathlib.Core.Path.{refl, ap}
use mathlib.Core.List.{List, ◌++◌}
use native.Mathlib.Omega.{arith}
use borrow.Author.Tests.{le-leb, lt-leb}
use lib.ListN.{length, drop}
use Rattle.sequences.specs.Choices.{taken, passed}
use Rattle.telling.specs.LastHeld.{lent_by}
use Rattle.writing.proofs.copy_last.Goals as goal

pub returns-else-ordinates-nq : goal.returns-else-ordinates-nq
returns-else-ordinates-nq c =
    let x = c.args in
    let none : length x.ordinates.now < x.nq = omega (arith, c.if-ordinates-nq.false) in
    passed _ (lt-leb _ _ none) refl

pub returns-then-ordinates-nq : goal.returns-then-ordinates-nq
returns-then-ordinates-nq c =
    let x = c.args in
    let w = x.work.now in
    let room : x.nq ≤ length x.ordinates.now = omega (arith, c.if-ordinates-nq.true) in
    let front : List ℕ → List ℕ = λ (q : List ℕ). q ++ drop x.nq x.ordinates.now in
    let copied = lent_by x.held x.nq w front _ (ap front c.copy_from_slice.ensures.after) (omega (arith, c.last_place-p.ensures)) in
    taken _ (le-leb _ _ room) copied
