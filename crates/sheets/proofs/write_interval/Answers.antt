-- Nothing where there is no excess, and else the row.
use native.Mathlib.Omega.{arith}
use Rattle.text.specs.Written.{written_none}
use Rattle.cells.specs.Cells.{measure_is}
use Rattle.sheets.specs.Tables.{columns_are}
use Rattle.sheets.specs.Lines.{row_none, row_some}
use Rattle.sheets.proofs.write_interval.Goals as goal

pub returns-then-columns-k-eq0 : goal.returns-then-columns-k-eq0
returns-then-columns-k-eq0 c =
    let x = c.args in
    rw (row_none (measure_is x.measure) (columns_are x.columns.now) x.k (omega (arith, c.if-columns-k-eq0.true)))
    (written_none _ _)

pub returns : goal.returns
returns c =
    let x = c.args in
    rw (row_some (measure_is x.measure) (columns_are x.columns.now) x.k (omega (arith, c.if-columns-k-eq0.false)))
    c.write_row.ensures
