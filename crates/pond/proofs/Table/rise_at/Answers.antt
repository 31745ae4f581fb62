-- `pond::Table::rise_at` meets its contract: a row of the table and the next one, which follows it.
use Rattle.std.proofs.Common.{arith}
use Rattle.pond.specs.Tables.{paired, rows_follow}
use Rattle.pond.proofs.Table.rise_at.Goals as goal

pub overflow_sub-result : goal.overflow_sub-result
overflow_sub-result c =
    let t = c.args.self in
    let f = rows_follow t.minutes t.svs.now t.sqs.now c.requires.pond_table c.args.row c.requires.row_in_bounds in
    omega (arith, f.fills)

pub overflow_sub-result-2 : goal.overflow_sub-result-2
overflow_sub-result-2 c =
    let t = c.args.self in
    let f = rows_follow t.minutes t.svs.now t.sqs.now c.requires.pond_table c.args.row c.requires.row_in_bounds in
    omega (arith, f.grows)

pub bounds-self-next-2 : goal.bounds-self-next-2
bounds-self-next-2 c = let t = c.args.self in omega (arith, paired t.minutes t.svs.now t.sqs.now c.requires.pond_table)

pub bounds-self-row-2 : goal.bounds-self-row-2
bounds-self-row-2 c = let t = c.args.self in omega (arith, paired t.minutes t.svs.now t.sqs.now c.requires.pond_table)
