-- The ratio's line, which is short, and the lines of its records behind it.
use native.Mathlib.Omega.{arith}
use Rattle.text.specs.Written.{written_more}
use Rattle.printing.specs.Room.{ratio_short}
use Rattle.printing.proofs.write_under.Goals as goal

pub write_ratio-next-requires : goal.write_ratio-next-requires
write_ratio-next-requires c = omega (arith, ratio_short c.args.ratio (omega arith))

pub write_lines-requires : goal.write_lines-requires
write_lines-requires c = let x = c.args in (omega arith, omega (arith, ratio_short x.ratio (omega arith)))

pub returns : goal.returns
returns c =
    let short = ratio_short c.args.ratio (omega arith) in
    written_more (omega arith) c.write_ratio-next.ensures c.write_lines.ensures
