-- One figure behind another. What is written so far and what is still to be written are together the line's text, for which there is room.
use native.Mathlib.Omega.{arith}
use Rattle.text.specs.Written.{written_more}
use Rattle.figures.specs.Line.{figures_text, length-figures}
use Rattle.figures.proofs.write_figures.Goals as goal

pub write_number-kind-requires : goal.write_number-kind-requires
write_number-kind-requires c = omega (arith, length-figures c.args.f)

pub write_amount-area-requires : goal.write_amount-area-requires
write_amount-area-requires c = omega (arith, length-figures c.args.f)

pub write_amount-peak-requires : goal.write_amount-peak-requires
write_amount-peak-requires c = omega (arith, length-figures c.args.f)

pub write_number-interval-requires : goal.write_number-interval-requires
write_number-interval-requires c = omega (arith, length-figures c.args.f)

pub write_number-sum-requires : goal.write_number-sum-requires
write_number-sum-requires c =
    omega (arith, length-figures c.args.f)

pub write_byte-requires : goal.write_byte-requires
write_byte-requires c =
    omega (arith, length-figures c.args.f)

pub returns : goal.returns
unfolding figures_text
returns c =
    let room = length-figures c.args.f in
    let area = written_more (omega arith) c.write_number-kind.ensures c.write_amount-area.ensures in
    let peak = written_more (omega arith) area c.write_amount-peak.ensures in
    let interval = written_more (omega arith) peak c.write_number-interval.ensures in
    let sum = written_more (omega arith) interval c.write_number-sum.ensures in
    written_more (omega arith) sum c.write_byte.ensures
