-- The room that is lent is as long as a file may be.
use Prim.Native.Nat.{◌≤◌}
use mathlib.Core.Path.{◌≡◌, sym}
use lib.ListN.{length}
use lib.Seq.{length-take-le}
use borrow.Author.Rules.{rules}
use Rattle.store.proofs.keep_moved.Goals as goal

pub slice_bounds-put_moved-end : goal.slice_bounds-put_moved-end
slice_bounds-put_moved-end c =
    let long : 1_600_000 ≤ length c.zeros-room.result = search rules in
    sym (length-take-le 1_600_000 c.zeros-room.result long)
