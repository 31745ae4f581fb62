-- Below 10 there is one digit; else those of the tenth, and one behind them.
use Rattle.std.proofs.Common.{ap, arith, length}
use Rattle.text.specs.Digits.{whole_small, whole_more, whole_longer}
use Rattle.text.specs.Written.{written_more}
use Rattle.text.proofs.+write_whole.Goals as goal

pub write_byte-requires : goal.write_byte-requires
write_byte-requires t c = omega (arith, ap length (whole_small c.args.x c.if-x-lt10.true))

pub returns-then-x-lt10 : goal.returns-then-x-lt10
returns-then-x-lt10 t c = rw (whole_small _ c.if-x-lt10.true, ← c.digit_of.ensures) c.write_byte.ensures

pub write_whole-next-requires : goal.write_whole-next-requires
write_whole-next-requires t c = (omega arith, omega (arith, whole_longer c.args.x c.if-x-lt10.false (omega arith)))

pub write_byte-requires-2 : goal.write_byte-requires-2
write_byte-requires-2 t c = omega (arith, whole_longer c.args.x c.if-x-lt10.false (omega arith))

pub returns : goal.returns
returns t c =
    let several = c.if-x-lt10.false in
    let longer = whole_longer c.args.x several (omega arith) in
    rw (whole_more c.args.x several (omega arith), ← c.digit_of-2.ensures) (written_more (omega arith) c.write_whole-next.ensures c.write_byte-2.ensures)
