-- The part that is lent is as long as the case says.
use mathlib.Core.Path.{sym}
use native.Mathlib.Omega.{arith}
use lib.ListN.{length-take}
use lib.Seq.{length-take-le}
use Rattle.mover.proofs.lend.Goals as goal

pub slice_bounds-run_case-end : goal.slice_bounds-run_case-end
slice_bounds-run_case-end c = sym (length-take-le _ _ (omega arith))

pub run_case-requires : goal.run_case-requires
run_case-requires c = simp length-take (omega arith)
