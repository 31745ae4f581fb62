-- The comma, and the digits behind it, of which there are at most 20.
use native.Mathlib.Omega.{arith}
use Rattle.text.specs.Digits.{whole_within}
use Rattle.text.specs.Written.{written_more}
use Rattle.cells.proofs.write_count.Goals as goal

pub write_whole-requires : goal.write_whole-requires
write_whole-requires c = omega (arith, whole_within c.args.x)

pub returns : goal.returns
returns c = written_more (omega arith) c.write_byte-next.ensures c.write_whole.ensures
