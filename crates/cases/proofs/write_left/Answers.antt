-- The count, the line's end and the last line, one behind another. A count has at most 20 digits.
use native.Mathlib.Omega.{arith}
use Rattle.text.specs.Digits.{whole_short}
use Rattle.text.specs.Written.{written_more}
use Rattle.cases.specs.Text.{left_lines}
use Rattle.cases.proofs.write_left.Goals as goal

pub write_whole-end-requires : goal.write_whole-end-requires
write_whole-end-requires c = omega (arith, whole_short 19 c.count_left.result (omega arith))

pub write_byte-mark-requires : goal.write_byte-mark-requires
write_byte-mark-requires c = omega (arith, whole_short 19 c.count_left.result (omega arith))

pub write_text-requires : goal.write_text-requires
write_text-requires c =
    let counted = c.count_left in
    omega (arith, whole_short 19 counted.result (omega arith))

pub returns : goal.returns
unfolding left_lines
returns c =
    let counted = c.count_left in
    let short = whole_short 19 counted.result (omega arith) in
    rw (← counted.ensures)
    (written_more (omega arith) (written_more (omega arith) c.write_whole-end.ensures c.write_byte-mark.ensures) c.write_text.ensures)
