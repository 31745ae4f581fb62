-- The word, the two numbers and the line's end, one behind another. A number has at most 20 digits.
use native.Mathlib.Omega.{arith}
use Rattle.meaning.specs.Listing.{refused_line}
use Rattle.text.specs.Digits.{whole_short}
use Rattle.text.specs.Written.{written_more}
use Rattle.printing.proofs.write_refusal.Goals as goal

pub write_whole-second-requires : goal.write_whole-second-requires
write_whole-second-requires c = omega (arith, whole_short 19 c.args.number (omega arith))

pub write_number-end-requires : goal.write_number-end-requires
write_number-end-requires c =
    let x = c.args in
    omega (arith, whole_short 19 x.number (omega arith), whole_short 19 x.line (omega arith))

pub write_byte-requires : goal.write_byte-requires
write_byte-requires c =
    let x = c.args in
    omega (arith, whole_short 19 x.number (omega arith), whole_short 19 x.line (omega arith))

pub returns : goal.returns
unfolding refused_line
returns c =
    let x = c.args in
    let first = whole_short 19 x.number (omega arith) in
    let second = whole_short 19 x.line (omega arith) in
    written_more (omega arith)
    (written_more (omega arith) (written_more (omega arith) c.write_text-first.ensures c.write_whole-second.ensures) c.write_number-end.ensures)
    c.write_byte.ensures
