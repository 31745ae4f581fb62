-- The parts that are lent are as long as the case says.
use mathlib.Core.Path.{sym}
use native.Mathlib.Omega.{arith}
use lib.ListN.{length-take}
use lib.Seq.{length-take-le}
use borrow.Author.Rules.{rules}
use Rattle.rooms.proofs.lend.Goals as goal

pub slice_bounds-run_case-end : goal.slice_bounds-run_case-end
slice_bounds-run_case-end c = sym (length-take-le _ _ (omega arith))

pub slice_bounds-run_case-end-2 : goal.slice_bounds-run_case-end-2
slice_bounds-run_case-end-2 c = sym (length-take-le _ _ (omega arith))

pub slice_bounds-run_case-end-3 : goal.slice_bounds-run_case-end-3
slice_bounds-run_case-end-3 c = sym (length-take-le _ _ (omega arith))

pub run_case-requires : goal.run_case-requires
run_case-requires c = simp length-take (omega arith)
