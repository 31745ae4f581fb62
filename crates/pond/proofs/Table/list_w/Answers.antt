-- `pond::Table::list_w` meets its contract: W of the first rows stands in the list, and behind them what stood there at first.
use Rattle.std.proofs.Common.{◌≡◌, length, replicate, refl, arith}
use Rattle.std.proofs.lemmas.List.{length-replicate}
use Rattle.sequences.specs.Rewriting.{rewritten_more}
use Rattle.pond.specs.Levels.{no_w, ws_listed}
use Rattle.pond.proofs.Table.list_w.Goals as goal

pub loop-row-preserved : goal.loop-row-preserved
loop-row-preserved c =
    let few = c.requires.few in
    let room : length (replicate 21 no_w) ≡ 21 = length-replicate 21 no_w in
    rewritten_more _ (replicate 21 no_w) _ _ _ c.loop-row.invariant (omega (arith, room, few)) c.w_at.ensures

pub returns : goal.returns
returns c =
    let t = c.args.self in
    ws_listed t.minutes t.svs.now t.sqs.now c.requires (replicate 21 no_w) c.loop-row.ws c.loop-row.row refl (omega arith) c.loop-row.invariant
