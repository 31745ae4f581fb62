-- JR names its word and one ratio; any other record as many as its row says.
use Prim.Native.Nat.{zero-le}
use mathlib.Core.Path.{refl}
use borrow.Author.Tests.{eq-eqb, ne_eqb}
use native.Mathlib.Omega.{arith}
use Rattle.sequences.specs.Choices.{taken, passed}
use Rattle.records.specs.Rows.{span_few}
use Rattle.reasons.proofs.named_fields.Goals as goal

pub returns-then-item-eq-JR : goal.returns-then-item-eq-JR
returns-then-item-eq-JR c = (taken _ (eq-eqb _ _ c.if-item-eq-JR.true) refl, omega arith)

pub returns : goal.returns
returns c =
    let item = c.args.item in
    (passed _ (ne_eqb _ _ c.if-item-eq-JR.false) c.named_fields.ensures, rw c.named_fields.ensures (span_few item 0 zero-le))
