-- Either the count would pass what the region may hold, or the values stand behind those there and the head is raised.
use Prim.Native.Nat.{◌+◌, ◌-◌}
use mathlib.Core.Path.{◌≡◌, refl, sym}
use mathlib.Core.Bool.{true, false}
use native.Mathlib.Numerals.{add-one}
use native.Mathlib.Omega.{arith}
use borrow.Author.Tests.{lt-ltb, le-ltb}
use Rattle.sequences.specs.Choices.{taken, passed}
use Rattle.meaning.specs.Words.{◌<?◌}
use Rattle.blocks.specs.Cards.{head_in, count_by, count_low}
use borrow.Author.Rules.{rules}
use borrow.Rule.Slice.PartMut.{put_mid}
use Rattle.std.proofs.Math.Seq.{paste}
use Rattle.std.proofs.Common.{ℕ, List, ◌++◌, ◌∙◌, ap, take, drop, take-take, length-take-le}
use Rattle.std.proofs.lemmas.Slice.{put_mid-paste}
use Rattle.blocks.proofs.take_in.Goals as goal

pub overflow_add-count : goal.overflow_add-count
overflow_add-count c =
    let x = c.args in
    omega (arith, c.count_by-count.ensures, count_low (head_in x.region.now) x.most (omega arith))

pub returns-then-most-count : goal.returns-then-most-count
returns-then-most-count c =
    let x = c.args in
    let t : (x.most <? (count_by (head_in x.region.now) + x.n)) ≡ true = rw (sym c.count_by-count.ensures) (lt-ltb _ _ c.if-most-count.true) in record { value = rw t; region_after = taken _ t refl }

pub returns : goal.returns
returns c =
    let x = c.args in
    let e = c.count_by-count.ensures in
    let k = c.count_by-count.result in
    let t : (x.most <? (count_by (head_in x.region.now) + x.n)) ≡ false = rw (sym e) (le-ltb _ _ c.if-most-count.false) in
    let pasted : put_mid (k + 1) (k + 1 + x.n - (k + 1)) x.region.now c.copy_from_slice.new.self ≡ paste x.region.now (k + 1) x.values.now x.n =
    put_mid-paste (k + 1) _ x.region.now c.copy_from_slice.new.self (take x.n x.values.now) x.n c.copy_from_slice.ensures.after (omega arith) (sym (length-take-le x.n x.values.now (search rules)))
    ∙ ap (λ (m : List ℕ). take (k + 1) x.region.now ++ m ++ drop (k + 1 + x.n) x.region.now) (take-take x.n x.n x.values.now (omega arith)) in
    record { value = rw t; region_after = passed _ t (rw (← e, pasted, add-one, add-one)) }
