-- The line of a move, or that of a refusal; either has room.
use native.Mathlib.Omega.{arith}
use Rattle.meaning.specs.Words.{bytes}
use Rattle.text.specs.Line.{told_short}
use Rattle.moves.specs.Text.{move_line}
use Rattle.moves.proofs.write_answer.Goals as goal

pub write_told-requires : goal.write_told-requires
write_told-requires c = omega (arith, told_short (bytes "MOVED ") c.in-Ok.count (omega arith))

pub write_told-requires-in-Err : goal.write_told-requires-in-Err
write_told-requires-in-Err c = omega (arith, told_short (bytes "REFUSED ") c.in-Err.number (omega arith))

pub returns-in-Ok : goal.returns-in-Ok
unfolding move_line
returns-in-Ok c =
    let written = c.write_told.ensures in
    record { text = rw c.in-Ok.is written; short = omega (arith, written.place, told_short (bytes "MOVED ") c.in-Ok.count (omega arith)) }

pub returns-in-Err : goal.returns-in-Err
unfolding move_line
returns-in-Err c =
    let written = c.write_told-in-Err.ensures in
    record { text = rw c.in-Err.is written; short = omega (arith, written.place, told_short (bytes "REFUSED ") c.in-Err.number (omega arith)) }
