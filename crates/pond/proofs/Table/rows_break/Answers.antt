-- `pond::Table::rows_break` meets its contract: as long as no rule was found broken, the rows still to be asked break one just where those behind the first do.
use Rattle.std.proofs.Common.{◌+◌, ◌∙◌, sym, get_or, false, arith}
use Rattle.pond.specs.Refusals.{rows_turn}
use Rattle.pond.proofs.Table.rows_break.Goals as goal

pub loop-row-preserved : goal.loop-row-preserved
loop-row-preserved c =
    let t = c.args.self in
    let k = c.loop-row.row in
    rows_turn t.minutes (get_or t.svs.now k 0) (get_or t.sqs.now k 0) t.svs.now t.sqs.now (k + 1) false c.requires.within.paired (omega arith)
    (sym c.if-row_breaks.false ∙ c.row_breaks.ensures)
    ∙ c.loop-row.invariant
