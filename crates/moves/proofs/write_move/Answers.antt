-- One line behind another, from the front of the slice on.
use native.Mathlib.Omega.{arith}
use Rattle.text.specs.Written.{written_more}
use Rattle.text.specs.Counted.{written_counted}
use Rattle.moves.specs.Text.{move_text}
use Rattle.moves.proofs.write_move.Goals as goal

pub returns : goal.returns
unfolding move_text
returns c =
    let text =
    written_more (omega arith) (written_more (omega arith) c.write_answer-bytes.ensures.text c.write_bytes-mark.ensures.text) c.write_text.ensures in record { text = text; counted = written_counted text }
