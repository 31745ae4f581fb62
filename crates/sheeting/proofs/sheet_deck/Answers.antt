-- By the engine's answer the sheet is that of the block found, or the line of the refusal.
use Rattle.std.proofs.Common.{arith}
use Rattle.text.specs.Counted.{written_counted}
use Rattle.sheeting.specs.Deck.{sheet-accepted, sheet-refused}
use Rattle.sheeting.proofs.sheet_deck.Goals as goal

pub returns-in-Ok : goal.returns-in-Ok
returns-in-Ok c =
    let x = c.args in
    let ran = c.run-answer in
    let written = c.sheet_block.ensures in
    let sheet =
    sheet-accepted x.deck.now x.named x.ratio ran.result ran.ensures (omega arith) (omega arith) (omega arith) {nq = c.in-Ok.accepted.ordinates} {blocks = c.in-Ok.accepted.blocks} {ratios = c.in-Ok.accepted.ratios} c.in-Ok.is
    _ _ c.number_of-block.ensures c.number_of-rate.ensures in
    record { told = rw (← sheet) written; counted = written_counted written }

pub returns-in-Err : goal.returns-in-Err
returns-in-Err c =
    let x = c.args in
    let ran = c.run-answer in
    let written = c.write_refusal.ensures in
    let sheet = sheet-refused x.deck.now x.named x.ratio ran.result ran.ensures (omega arith) (omega arith) (omega arith) c.in-Err.is in
    record { told = rw (← sheet) written; counted = written_counted written }
