-- `writing::write_record` meets its contract: without room the records stay, and with room `record_at` writes the one.
use Prim.Native.Nat.{◌+◌, ◌*◌, ◌<◌, ◌≤◌}
use mathlib.Core.Path.{refl}
use native.Mathlib.Omega.{arith}
use borrow.Author.Tests.{le-leb, lt-leb}
use lib.ListN.{length}
use Rattle.sequences.specs.Choices.{taken, passed}
use Rattle.meaning.specs.Results.{record_size}
use Rattle.writing.proofs.write_record.Goals as goal

pub returns-else-records-k : goal.returns-else-records-k
returns-else-records-k c =
    let x = c.args in
    let none : length x.records.now < record_size * x.k + record_size = omega (arith, c.if-records-k.false) in
    passed _ (lt-leb _ _ none) refl

pub returns-then-records-k : goal.returns-then-records-k
returns-then-records-k c =
    let x = c.args in
    let room : record_size * x.k + record_size ≤ length x.records.now = omega (arith, c.if-records-k.true) in
    taken _ (le-leb _ _ room) c.record_at.ensures
