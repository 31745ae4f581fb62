-- After k turns the rows of the first k intervals are written, where they have excess.
use Rattle.std.proofs.Common.{◌≡◌, length}
use Rattle.meaning.specs.Sheet.{rows_from}
use Rattle.text.specs.Written.{Written}
use Rattle.cells.specs.Cells.{measure_is}
use Rattle.sheets.specs.Tables.{columns_are}
use Rattle.sheets.proofs.write_rows.Given as goal

abbrev pub invariant-loop-k : goal.invariant-loop-k
invariant-loop-k l =
    (length l.out ≡ length l.initial.out)
    × Written l.initial.out l.fn.start (rows_from (measure_is l.fn.measure) (columns_are l.fn.columns) 0 l.k) l.out l.at
