-- One line behind another, from the front of the slice on.
use native.Mathlib.Omega.{arith}
use Rattle.text.specs.Written.{written_more}
use Rattle.text.specs.Counted.{written_counted}
use Rattle.cases.specs.Text.{case_text}
use Rattle.cases.proofs.write_case.Goals as goal

pub returns : goal.returns
unfolding case_text
returns c =
    let text =
    written_more (omega arith)
    (written_more (omega arith) (written_more (omega arith) c.write_answer-flows.ensures.text c.write_ordinates-bytes.ensures.text) c.write_bytes-count.ensures.text)
    c.write_left.ensures in record { text = text; counted = written_counted text }
