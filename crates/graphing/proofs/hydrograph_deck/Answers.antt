-- By the engine's answer: the ordinates that the run leaves for what is named, at the minutes of the deck's time control, or the line of the refusal.
use Rattle.std.proofs.Common.{rules, ◌≡◌, length, refl, sym, arith}
use lib.Seq.{length-take-le}
use Rattle.meaning.specs.Records.{most_ordinates}
use Rattle.text.specs.Counted.{written_counted}
use Rattle.graphing.specs.Deck.{run-names, few_left, hydrograph-accepted, hydrograph-refused}
use Rattle.graphing.proofs.hydrograph_deck.Goals as goal

pub slice_bounds-ordinates-end : goal.slice_bounds-ordinates-end
slice_bounds-ordinates-end c =
    let x = c.args in
    let ran = c.run-answer in
    let named = run-names x.deck.now x.named x.ratio ran.result ran.ensures (omega arith) (omega arith) (omega arith) (omega arith) (omega arith) in
    let long : length ran.new.ordinates ≡ most_ordinates = search rules in
    omega (arith, few_left x.deck.now x.named x.ratio ran.result named {nq = c.in-Ok.accepted.ordinates} {blocks = c.in-Ok.accepted.blocks} {ratios = c.in-Ok.accepted.ratios} c.in-Ok.is, long)

pub slice_bounds-write_hydrograph-end : goal.slice_bounds-write_hydrograph-end
slice_bounds-write_hydrograph-end c =
    let x = c.args in
    let ran = c.run-answer in
    let named = run-names x.deck.now x.named x.ratio ran.result ran.ensures (omega arith) (omega arith) (omega arith) (omega arith) (omega arith) in
    let long : length ran.new.ordinates ≡ most_ordinates = search rules in
    sym (length-take-le _ _ (omega (arith, few_left x.deck.now x.named x.ratio ran.result named {nq = c.in-Ok.accepted.ordinates} {blocks = c.in-Ok.accepted.blocks} {ratios = c.in-Ok.accepted.ratios} c.in-Ok.is, long)))

pub returns-in-Ok : goal.returns-in-Ok
returns-in-Ok c =
    let x = c.args in
    let ran = c.run-answer in
    let written = c.write_hydrograph.ensures in
    let named = run-names x.deck.now x.named x.ratio ran.result ran.ensures (omega arith) (omega arith) (omega arith) (omega arith) (omega arith) in
    let text =
    hydrograph-accepted x.deck.now x.named x.ratio ran.result named {nq = c.in-Ok.accepted.ordinates} {blocks = c.in-Ok.accepted.blocks} {ratios = c.in-Ok.accepted.ratios} c.in-Ok.is {n = c.in-Ok.accepted.ordinates} written c.minutes_of-minutes.ensures.0 (omega arith) (search rules) in
    record { told = text; counted = written_counted written }

pub returns-in-Err : goal.returns-in-Err
returns-in-Err c =
    let x = c.args in
    let ran = c.run-answer in
    let written = c.write_refusal.ensures in
    let named = run-names x.deck.now x.named x.ratio ran.result ran.ensures (omega arith) (omega arith) (omega arith) (omega arith) (omega arith) in
    let text = hydrograph-refused x.deck.now x.named x.ratio ran.result named c.in-Err.is written refl refl in
    record { told = text; counted = written_counted written }
