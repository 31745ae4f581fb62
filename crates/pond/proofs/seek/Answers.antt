-- `pond::seek` meets its contract: below the span the search goes down and above it up; else W is on it.
use Rattle.std.proofs.Common.{◌≤◌, arith}
use Rattle.pond.specs.Levels.{no_w}
use Rattle.pond.specs.Searches.{first_low, row-topped, row-sought, sink_inside, sink-found, climb_inside, climb-found}
use Rattle.pond.proofs.seek.Goals as goal

pub sink-row-requires : goal.sink-row-requires
sink-row-requires c =
    let x = c.args in
    let g = c.requires.sought in
    let t = row-topped c.requires.m x.svs.now x.sqs.now x.ws.now x.rises.now x.s g in
    (omega (arith, t.ahead, t.inside), first_low c.requires.m x.svs.now x.sqs.now x.ws.now x.rises.now x.s g)

pub span_at-requires : goal.span_at-requires
span_at-requires c =
    let x = c.args in
    let g = c.requires.sought in
    let k = c.sink-row.result in
    row-sought c.requires.m x.svs.now x.sqs.now x.ws.now x.rises.now x.s g k
    (sink_inside c.requires.m x.svs.now x.sqs.now x.ws.now x.rises.now x.s g x.w k c.sink-row.ensures)

pub returns-then-w-s : goal.returns-then-w-s
returns-then-w-s c = λ m g.
    let x = c.args in
    rw c.span_at.ensures
    (sink-found m x.svs.now x.sqs.now x.ws.now x.rises.now x.s g x.w c.sink-row.result c.sink-row.ensures c.if-w-s.true)

pub span_at-requires-then-s-w : goal.span_at-requires-then-s-w
span_at-requires-then-s-w c =
    let x = c.args in
    let g = c.requires.sought in
    row-sought c.requires.m x.svs.now x.sqs.now x.ws.now x.rises.now x.s g c.min-last.result
    (climb_inside c.requires.m x.svs.now x.sqs.now x.ws.now x.rises.now x.s g x.w c.climb-row.result c.min-last.result (omega arith))

pub returns-then-s-w : goal.returns-then-s-w
returns-then-s-w c = λ m g.
    let x = c.args in
    let fits : x.w ≤ no_w = omega arith in
    rw c.span_at-then-s-w.ensures
    (climb-found m x.svs.now x.sqs.now x.ws.now x.rises.now x.s g x.w c.climb-row.result c.min-last.result (omega arith)
    c.climb-row.ensures c.if-w-s.false fits)
