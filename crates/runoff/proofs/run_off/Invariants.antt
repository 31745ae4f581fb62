-- `runoff::run_off` meets its contract: the sheet, interval after interval. The loop keeps that each ordinate has what the intervals before brought to it; when all are
-- through, the columns are the runoff (`sheet_order`).
use lib.ListN.{length}
use Rattle.runoff.specs.Rows.{sheet_for, Rows}
use Rattle.runoff.proofs.run_off.Given as goal

abbrev pub invariant-loop-own : goal.invariant-loop-own
invariant-loop-own l = Rows (sheet_for l.units l.excess (length l.excess)) (length l.initial.q) l.own l.q
