-- A number has at most 20 digits; what was written lies within the slice.
use native.Mathlib.Omega.{arith}
use Rattle.meaning.specs.Words.{bytes}
use Rattle.text.specs.Line.{told_short}
use Rattle.text.specs.Counted.{written_counted}
use borrow.Author.Rules.{rules}
use Rattle.store.proofs.tell_number.Goals as goal

pub write_told-n-requires : goal.write_told-n-requires
write_told-n-requires c = omega (arith, told_short (bytes "REFUSED ") c.args.number (omega arith))

pub slice_bounds-out-end : goal.slice_bounds-out-end
slice_bounds-out-end c = (written_counted c.write_told-n.ensures).within

pub slice_bounds-say-end : goal.slice_bounds-say-end
slice_bounds-say-end c = (written_counted c.write_told-n.ensures).front
