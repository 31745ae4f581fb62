-- After i turns the shares in the first i ordinates are written, each within its cell.
use Rattle.std.proofs.Common.{◌≡◌, length}
use Rattle.meaning.specs.Sheet.{cells_from}
use Rattle.text.specs.Written.{Written}
use Rattle.cells.specs.Cells.{measure_is, share_by}
use Rattle.sheets.proofs.write_shares.Given as goal

abbrev pub invariant-loop-i : goal.invariant-loop-i
invariant-loop-i l =
    (length l.out ≡ length l.initial.out)
    × Written l.initial.out l.fn.start (cells_from (share_by (measure_is l.fn.measure) l.fn.units l.fn.excess l.fn.k) 0 l.i) l.out l.at
