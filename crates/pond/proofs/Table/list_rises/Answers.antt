-- `pond::Table::list_rises` meets its contract: of the first rows it is listed by how much W rises to the next one.
use Rattle.std.proofs.Common.{ℕ, ◌≡◌, length, replicate, refl, arith}
use Rattle.std.proofs.lemmas.List.{length-replicate}
use Rattle.sequences.specs.Rewriting.{rewritten_more}
use Rattle.pond.specs.Tables.{two_rows, paired, count_rows}
use Rattle.pond.specs.Levels.{rises_listed}
use Rattle.pond.proofs.Table.list_rises.Goals as goal

pub overflow_sub-row-end : goal.overflow_sub-row-end
overflow_sub-row-end c =
    let t = c.args.self in
    omega (arith, two_rows t.minutes t.svs.now t.sqs.now c.requires, count_rows t.svs.now t.sqs.now (paired t.minutes t.svs.now t.sqs.now c.requires))

pub loop-row-preserved : goal.loop-row-preserved
loop-row-preserved c =
    let few = c.requires.few in
    let room : length {A = ℕ} (replicate 20 0) ≡ 20 = length-replicate {A = ℕ} 20 0 in
    rewritten_more _ (replicate 20 0) _ _ _ c.loop-row.invariant (omega (arith, room, few)) c.rise_at.ensures

pub returns : goal.returns
returns c =
    let t = c.args.self in
    rises_listed t.minutes t.svs.now t.sqs.now c.requires (replicate 20 0) c.loop-row.rises c.loop-row.row refl (omega arith) c.loop-row.invariant
