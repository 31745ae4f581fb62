-- Three numbers and the line's end, one behind another. A number has at most 20 digits.
use native.Mathlib.Omega.{arith}
use Rattle.text.specs.Digits.{whole_short}
use Rattle.text.specs.Written.{written_more}
use Rattle.cases.specs.Text.{answer_line}
use Rattle.cases.proofs.write_counts.Goals as goal

pub write_whole-second-requires : goal.write_whole-second-requires
write_whole-second-requires c = let x = c.args in omega (arith, whole_short 19 x.ordinates (omega arith))

pub write_number-third-requires : goal.write_number-third-requires
write_number-third-requires c =
    let x = c.args in
    omega (arith, whole_short 19 x.ordinates (omega arith), whole_short 19 x.blocks (omega arith))

pub write_number-end-requires : goal.write_number-end-requires
write_number-end-requires c =
    let x = c.args in
    omega (arith, whole_short 19 x.ordinates (omega arith), whole_short 19 x.blocks (omega arith), whole_short 19 x.ratios (omega arith))

pub write_byte-requires : goal.write_byte-requires
write_byte-requires c =
    let x = c.args in
    omega (arith, whole_short 19 x.ordinates (omega arith), whole_short 19 x.blocks (omega arith), whole_short 19 x.ratios (omega arith))

pub returns : goal.returns
unfolding answer_line
returns c =
    let x = c.args in
    let one = whole_short 19 x.ordinates (omega arith) in
    let two = whole_short 19 x.blocks (omega arith) in
    let three = whole_short 19 x.ratios (omega arith) in
    written_more (omega arith)
    (written_more (omega arith) (written_more (omega arith) c.write_whole-second.ensures c.write_number-third.ensures) c.write_number-end.ensures)
    c.write_byte.ensures
