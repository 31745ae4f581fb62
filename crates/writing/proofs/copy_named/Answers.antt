-- `writing::copy_named` meets its contract: by whether the block is the one named.
use Prim.Native.Nat.{◌+◌}
use mathlib.Core.Path.{◌≡◌, refl}
use native.Mathlib.Omega.{arith}
use borrow.Author.Tests.{eq-eqb, ne_eqb}
use Rattle.sequences.specs.Choices.{taken, passed}
use Rattle.writing.proofs.copy_named.Goals as goal

pub returns-else-named-k : goal.returns-else-named-k
returns-else-named-k c =
    let x = c.args in
    let other : x.named ≡ x.k + 1 → ⊥ = λ (e : x.named ≡ x.k + 1). omega (arith, c.if-named-k.false) in
    passed _ (ne_eqb x.named (x.k + 1) other) refl

pub returns-then-named-k : goal.returns-then-named-k
returns-then-named-k c =
    let x = c.args in
    let same : x.named ≡ x.k + 1 = omega (arith, c.if-named-k.true) in
    taken _ (eq-eqb x.named (x.k + 1) same) c.copy_last.ensures
