-- `stack::pond_last` meets its contract: the part that was lent comes back ponded, and the law of a change in its place gives the view.
use Prim.Native.Nat.{◌+◌, ◌-◌, ◌*◌}
use mathlib.Core.Path.{◌≡◌, sym, ap, ◌∙◌}
use native.Mathlib.Omega.{arith}
use lib.ListN.{length}
use Rattle.sequences.specs.Parts.{part, put, length_part}
use Rattle.meaning.specs.Pool.{rows_of, ponded_of, overtopped}
use Rattle.meaning.specs.Records.{most_ordinates}
use Rattle.pond.specs.Limits.{ponded-length}
use Rattle.stack.specs.View.{view_changed, last_flow}
use Rattle.stack.specs.Limits.{last_within}
use Rattle.stack.proofs.pond_last.Goals as goal

pub pass_pool-requires : goal.pass_pool-requires
pass_pool-requires c =
    let s = c in
    let x = s.args in
    let p = most_ordinates * (x.stack.depth - 1) in
    let lent : p + x.nq - p ≡ x.nq = omega arith in
    let long : length (part p x.nq x.work.now) ≡ x.nq = length_part p x.nq x.work.now (omega (arith, s.requires.le_depth)) in record { pond_table = s.requires.pond_table; q_len_bound = rw lent (omega (arith, long, s.requires.le_depth.1)); all_up_to = rw lent (last_within x.stack x.nq x.work.now s.requires.le_depth.0 s.requires.within) }

pub returns : goal.returns
returns c =
    let s = c in
    let x = s.args in
    let w = x.work.now in
    let nq = x.nq in
    let p = most_ordinates * (x.stack.depth - 1) in
    let rows = rows_of x.svs.now x.sqs.now in
    let flow = ponded_of x.m rows (part p nq w) in
    let lent : p + nq - p ≡ nq = omega arith in
    let long : length flow ≡ nq = ponded-length x.m rows (part p nq w) ∙ length_part p nq w (omega arith) in
    let words : put p (p + nq - p) w c.pass_pool.new.q ≡ put p nq w flow = rw (c.pass_pool.ensures.q_after, lent) in record { value = rw lent at c.pass_pool.ensures.over ∙ ap (overtopped x.m rows) (sym (last_flow x.stack nq w s.requires.le_depth.0)); words = words; held = rw words (view_changed (ponded_of x.m rows) nq w x.stack s.requires.le_depth.0 s.requires.le_depth.1 long) }
