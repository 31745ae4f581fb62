-- The word, the blank and the ratio, and the line's end, one behind another.
use native.Mathlib.Omega.{arith}
use Rattle.meaning.specs.Listing.{ratio_line}
use Rattle.text.specs.Written.{written_more}
use Rattle.printing.specs.Lines.{length-ratio}
use Rattle.printing.proofs.write_ratio.Goals as goal

pub write_text-number-requires : goal.write_text-number-requires
write_text-number-requires c = omega (arith, length-ratio c.args.ratio)

pub write_amount-end-requires : goal.write_amount-end-requires
write_amount-end-requires c = omega (arith, length-ratio c.args.ratio)

pub write_byte-requires : goal.write_byte-requires
write_byte-requires c = omega (arith, length-ratio c.args.ratio)

pub returns : goal.returns
unfolding ratio_line
returns c =
    let room = length-ratio c.args.ratio in
    written_more (omega arith) (written_more (omega arith) c.write_text-number.ensures c.write_amount-end.ensures) c.write_byte.ensures
