-- The line of an acceptance, or that of a refusal; either has room.
use native.Mathlib.Omega.{arith}
use Rattle.cases.specs.Text.{answer_line}
use Rattle.cases.specs.Fronts.{counts_short, refusal_short}
use Rattle.cases.proofs.write_answer.Goals as goal

pub returns-in-Ok : goal.returns-in-Ok
returns-in-Ok c =
    let told = c.in-Ok in
    let written = c.write_counts.ensures in
    let fits = counts_short told.accepted.ordinates told.accepted.blocks told.accepted.ratios (omega arith) (omega arith) (omega arith) in
    record { text = rw told.is written; short = omega (arith, written.place) }

pub returns-in-Err : goal.returns-in-Err
unfolding answer_line
returns-in-Err c =
    let told = c.in-Err in
    let written = c.write_refusal.ensures in
    let fits = refusal_short told.refused.number told.refused.line (omega arith) (omega arith) in
    record { text = rw told.is written; short = omega (arith, written.place) }
