-- The blank, and the hundredths behind it.
use Rattle.text.specs.Written.{written_more}
use native.Mathlib.Omega.{arith}
use borrow.Author.Rules.{rules}
use Rattle.text.proofs.write_amount.Goals as goal

pub returns : goal.returns
returns c = written_more (omega arith) c.write_byte-next.ensures c.write_two_places.ensures
