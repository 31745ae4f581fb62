-- A file that was moved lies within its room, by `moved_fits`.
use mathlib.Core.Path.{sym}
use lib.ListN.{length}
use lib.Seq.{length-take-le}
use Rattle.store.specs.Kept.{moved_fits}
use borrow.Author.Rules.{rules}
use Rattle.store.proofs.put_moved.Goals as goal

pub slice_bounds-print-end : goal.slice_bounds-print-end
slice_bounds-print-end c =
    let m = c in
    let x = m.args in
    moved_fits x.asked x.file.now (length x.room.now) m.move_file.result _ m.move_file.ensures c.in-Ok.is

pub slice_bounds-print-end-in-Ok : goal.slice_bounds-print-end-in-Ok
slice_bounds-print-end-in-Ok c = sym (length-take-le _ _ (slice_bounds-print-end c))
