-- After i turns the lines of the first i ordinates are written, each within its size.
use Rattle.std.proofs.Common.{◌+◌, ◌*◌, ◌≤◌, ◌∙◌, take, length-take, take_all, arith}
use Rattle.text.specs.Written.{written_more}
use Rattle.graphing.specs.Sizes.{line_size, head_size}
use Rattle.graphing.specs.Texts.{lines_more, lines_short}
use Rattle.graphing.proofs.write_hydrograph.Goals as goal

pub write_ordinate-at-requires : goal.write_ordinate-at-requires
write_ordinate-at-requires c =
    let x = c.args in
    let l = c.loop-i in
    let reached : l.at ≤ head_size + line_size * l.i =
    omega (arith, l.invariant.1.place, lines_short x.minutes (take l.i x.flows.now) 1, length-take l.i x.flows.now, c.write_text-at.ensures.place) in
    (c.requires.0, omega arith, omega (arith, reached))

pub loop-i-preserved : goal.loop-i-preserved
loop-i-preserved c =
    let x = c.args in
    let l = c.loop-i in
    let reached : l.at ≤ head_size + line_size * l.i =
    omega (arith, l.invariant.1.place, lines_short x.minutes (take l.i x.flows.now) 1, length-take l.i x.flows.now, c.write_text-at.ensures.place) in
    let written = c.write_ordinate-at in
    (written.auto.out ∙ l.invariant.0, rw (lines_more x.minutes x.flows.now l.i (omega arith)) (written_more (omega (arith, reached)) l.invariant.1 written.ensures))

pub returns : goal.returns
returns c =
    let l = c.loop-i in
    let all = take_all l.i c.args.flows.now (omega arith) in
    written_more (omega arith) c.write_text-at.ensures (rw all at l.invariant.1)
