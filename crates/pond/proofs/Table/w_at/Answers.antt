-- `pond::Table::w_at` meets its contract: there are as many values of SQ as of SV, and W of a row is 600,000 times that of its hundredths.
use Rattle.std.proofs.Common.{get_or, arith}
use Rattle.pond.specs.Tables.{paired}
use Rattle.pond.specs.Hundredths.{w_hundredths}
use Rattle.pond.proofs.Table.w_at.Goals as goal

pub bounds-self-row-2 : goal.bounds-self-row-2
bounds-self-row-2 c = let t = c.args.self in omega (arith, paired t.minutes t.svs.now t.sqs.now c.requires.pond_table)

pub returns : goal.returns
returns c =
    let t = c.args.self in
    omega (arith, w_hundredths t.minutes (get_or t.svs.now c.args.row 0) (get_or t.sqs.now c.args.row 0))
