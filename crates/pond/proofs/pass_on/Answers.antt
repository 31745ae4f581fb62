-- `pond::pass_on` meets its contract. The first ordinates are outflows, and behind them stand the inflows of the pools still to come, whose outflows are to be put
-- there. Whether a pool is above the last row is asked of those that were and of those to come.
use Prim.Native.Nat.{ℕ, ◌≤◌, ◌<◌, ◌+◌, ◌-◌, ◌*◌}
use mathlib.Core.Path.{◌≡◌, refl, ap, ◌∙◌}
use mathlib.Core.Bool.{Bool, ◌||◌}
use mathlib.Core.List.{List}
use native.Mathlib.Nat.{mul-zero, le_trans}
use native.Mathlib.Omega.{arith}
use lib.ListN.{length, get_or}
use Rattle.sequences.specs.Bounds.{bound_set}
use Rattle.meaning.specs.Words.{◌<?◌}
use Rattle.meaning.specs.Water.{flow_limit}
use Rattle.meaning.specs.Pool.{rows_of, outflow_at, last_w}
use Rattle.pond.specs.Tables.{PondTable, two_rows, paired, ruled, count_rows}
use Rattle.pond.specs.Outflows.{outflow_under, outflow_last}
use Rattle.pond.specs.Limits.{Interval, row_flow, w-after_limit}
use Rattle.pond.specs.Spans.{found_graded, found_outflow, found-over}
use Rattle.pond.specs.Levels.{row_listed, span_listed}
use Rattle.pond.specs.Searches.{Sought}
use Rattle.pond.specs.Turns.{pool_of, outflow_turn, above_turn}
use Rattle.pond.proofs.pass_on.Goals as goal

-- There are two rows at least.
two : (m : ℕ) (svs sqs : List ℕ) → PondTable m svs sqs → 0 + 1 < length svs
two m svs sqs t = omega (arith, two_rows m svs sqs t, count_rows svs sqs (paired m svs sqs t))

pub span_at-s-requires : goal.span_at-s-requires
span_at-s-requires c =
    let p = c.args.table in
    let r = c.requires in
    row_listed p.minutes p.svs.now p.sqs.now r.pond_table c.args.ws.now c.args.rises.now r.ws_of r.rises_of 0 (two p.minutes p.svs.now p.sqs.now r.pond_table)

pub loop-flow-init : goal.loop-flow-init
loop-flow-init c =
    let p = c.args.table in
    let r = c.requires in
    record {
      flows = r.all_up_to;
      in_up = r.q_len_bound.1;
      low = omega arith;
      held = omega (arith, mul-zero (2 * p.minutes));
      span = rw c.span_at-s.ensures (span_listed p.minutes p.svs.now p.sqs.now r.pond_table c.args.ws.now c.args.rises.now r.ws_of r.rises_of 0 (two p.minutes p.svs.now p.sqs.now r.pond_table));
      done = refl;
      above = refl;
    }

pub w_after-w-requires : goal.w_after-w-requires
w_after-w-requires c =
    let l = c.loop-flow in
    let v = l.invariant in
    (omega (arith, v.low, c.requires.q_len_bound.0), record { minutes = c.requires.pond_table.minutes; old_up = v.in_up; new_up = v.flows l.flow-index; held = v.held })

pub seek-s-requires : goal.seek-s-requires
seek-s-requires c =
    let r = c.requires in
    record { m = c.args.table.minutes; sought = record { table = r.pond_table; levels = r.ws_of; steps = r.rises_of; span = c.loop-flow.invariant.span } }

pub outflow_at-old_out-requires : goal.outflow_at-old_out-requires
outflow_at-old_out-requires c =
    let p = c.args.table in
    let r = c.requires in
    let sought : Sought p.minutes p.svs.now p.sqs.now c.args.ws.now c.args.rises.now c.loop-flow.s
    = record { table = r.pond_table; levels = r.ws_of; steps = r.rises_of; span = c.loop-flow.invariant.span } in
    (r.pond_table.minutes, found_graded p.minutes p.svs.now p.sqs.now r.pond_table _ _ (c.seek-s.ensures p.minutes sought))

pub loop-flow-preserved : goal.loop-flow-preserved
loop-flow-preserved c =
    let p = c.args.table in
    let m = p.minutes in
    let svs = p.svs.now in
    let sqs = p.sqs.now in
    let rows = rows_of svs sqs in
    let r = c.requires in
    let t = r.pond_table in
    let l = c.loop-flow in
    let i = l.flow-index in
    let v = l.invariant in
    let w = c.w_after-w.result in
    let ew = c.w_after-w.ensures in
    let sought : Sought m svs sqs c.args.ws.now c.args.rises.now l.s = record { table = t; levels = r.ws_of; steps = r.rises_of; span = v.span } in
    let found = c.seek-s.ensures m sought in
    let span = c.seek-s.result in
    let o = c.outflow_at-old_out.result in
    let eo : o ≡ outflow_at m rows w = c.outflow_at-old_out.ensures ∙ found_outflow m svs sqs t span w found in
    let interval : Interval m (pool_of l.w l.old_in l.old_out) (get_or l.q i 0) = record { minutes = t.minutes; old_up = v.in_up; new_up = v.flows i; held = v.held } in
    let grown = w-after_limit m (pool_of l.w l.old_in l.old_out) (get_or l.q i 0) interval in
    let flow : o ≤ flow_limit = rw eo (le_trans (outflow_last m rows (ruled m svs sqs t) w) (row_flow m svs sqs t (length rows - 1))) in
    let over : c.is_over-over.result ≡ ((last_w m rows <? w) || l.over) = c.is_over-over.ensures ∙ ap (λ (b : Bool). b || l.over) (found-over m svs sqs t span w found) in
    record {
      flows = bound_set flow_limit l.q i _ v.flows flow;
      in_up = v.flows i;
      low = omega (arith, ew, grown, v.low);
      held = rw eo (outflow_under m rows (ruled m svs sqs t) w);
      span = found.at;
      done = outflow_turn m rows l.q i l.w l.old_in l.old_out w _ o _ (omega arith) ew refl eo refl ∙ v.done;
      above = above_turn m rows l.q i l.w l.old_in l.old_out w _ o _ (omega arith) ew refl eo l.over _ over ∙ v.above;
    }
