-- The interval's number, its end, the flow in cfs and in units and the line's end, one behind another, each within its cell.
use Rattle.std.proofs.Common.{◌+◌, ◌*◌, ◌≤◌, arith}
use Rattle.meaning.specs.Sheet.{Units, Customary}
use Rattle.text.specs.Digits.{whole_within}
use Rattle.text.specs.Written.{written_more}
use Rattle.cells.specs.Sizes.{cell_size}
use Rattle.cells.specs.Room.{behind-count, flow_short}
use Rattle.graphing.specs.Texts.{line-here}
use Rattle.graphing.proofs.write_ordinate.Goals as goal

pub write_whole-second-requires : goal.write_whole-second-requires
write_whole-second-requires c = omega (arith, whole_within (c.args.i + 1))

pub write_count-third-requires : goal.write_count-third-requires
write_count-third-requires c = omega (arith, c.write_whole-second.ensures.place, whole_within (c.args.i + 1))

pub write_flow-fourth-requires : goal.write_flow-fourth-requires
write_flow-fourth-requires c =
    let from-number : c.write_whole-second.result ≤ c.args.at + 20 = omega (arith, c.write_whole-second.ensures.place, whole_within (c.args.i + 1)) in
    omega (arith, behind-count _ c.write_count-third.ensures)

pub write_flow-end-requires : goal.write_flow-end-requires
write_flow-end-requires c =
    let from-number : c.write_whole-second.result ≤ c.args.at + 20 = omega (arith, c.write_whole-second.ensures.place, whole_within (c.args.i + 1)) in
    let from-minutes : c.write_count-third.result ≤ c.args.at + 20 + cell_size = omega (arith, behind-count _ c.write_count-third.ensures) in
    omega (arith, c.write_flow-fourth.ensures.place, flow_short Customary c.args.flow)

pub write_byte-requires : goal.write_byte-requires
write_byte-requires c =
    let x = c.args in
    let from-number : c.write_whole-second.result ≤ x.at + 20 = omega (arith, c.write_whole-second.ensures.place, whole_within (x.i + 1)) in
    let from-minutes : c.write_count-third.result ≤ x.at + 20 + cell_size = omega (arith, behind-count _ c.write_count-third.ensures) in
    let from-cfs : c.write_flow-fourth.result ≤ x.at + 20 + cell_size * 2 = omega (arith, c.write_flow-fourth.ensures.place, flow_short Customary x.flow) in
    omega (arith, c.write_flow-end.ensures.place, flow_short Units x.flow)

pub returns : goal.returns
returns c =
    let x = c.args in
    let room = c.requires.2 in
    let from-number : c.write_whole-second.result ≤ x.at + 20 = omega (arith, c.write_whole-second.ensures.place, whole_within (x.i + 1)) in
    let from-minutes : c.write_count-third.result ≤ x.at + 20 + cell_size = omega (arith, behind-count _ c.write_count-third.ensures) in
    let from-cfs : c.write_flow-fourth.result ≤ x.at + 20 + cell_size * 2 = omega (arith, c.write_flow-fourth.ensures.place, flow_short Customary x.flow) in
    let from-units : c.write_flow-end.result ≤ x.at + 20 + cell_size * 3 = omega (arith, c.write_flow-end.ensures.place, flow_short Units x.flow) in
    let text =
    written_more (omega (arith, from-units))
    (written_more (omega (arith, from-cfs))
    (written_more (omega (arith, from-minutes))
    (written_more (omega (arith, from-number)) c.write_whole-second.ensures c.write_count-third.ensures)
    c.write_flow-fourth.ensures)
    c.write_flow-end.ensures)
    c.write_byte.ensures in
    line-here x.minutes (x.i + 1) x.flow text (omega arith) (omega arith) (omega arith) (omega arith)
