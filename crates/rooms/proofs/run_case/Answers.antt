-- What was put lies within the text's slice.
use mathlib.Core.Path.{sym}
use native.Mathlib.Omega.{arith}
use lib.Seq.{length-take-le}
use borrow.Author.Rules.{rules}
use Rattle.rooms.proofs.run_case.Goals as goal

pub write_case-n-requires : goal.write_case-n-requires
write_case-n-requires c = omega arith

pub slice_bounds-print-end : goal.slice_bounds-print-end
slice_bounds-print-end c = sym (length-take-le _ _ (search rules))
