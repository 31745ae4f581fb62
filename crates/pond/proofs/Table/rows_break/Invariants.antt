-- `pond::Table::rows_break` meets its contract: as long as no rule was found broken, the rows still to be asked break one just where those behind the first do.
use Rattle.std.proofs.Common.{◌≡◌, ◌+◌, drop}
use Rattle.meaning.specs.Pool.{rows_of, rows_break}
use Rattle.pond.specs.Tables.{row_at}
use Rattle.pond.proofs.Table.rows_break.Given as goal

abbrev pub invariant-loop-row : goal.invariant-loop-row
invariant-loop-row l =
    let m = l.self.minutes in
    let svs = l.self.svs.now in
    let sqs = l.self.sqs.now in
    rows_break m (row_at svs sqs l.row) (rows_of (drop (l.row + 1) svs) (drop (l.row + 1) sqs)) ≡ rows_break m (row_at svs sqs 0) (rows_of (drop 1 svs) (drop 1 sqs))
