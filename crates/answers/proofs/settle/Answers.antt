-- The one test is the definition's own: 17 is a refusal like any other, and else the words alone are zeroed.
use mathlib.Core.Path.{sym, ◌∙◌}
use Rattle.std.proofs.Common.{◌≡◌, length, replicate, rules}
use Rattle.sequences.specs.Choices.{taken, passed}
use Rattle.answers.specs.Answers.{zeros_accept}
use Rattle.answers.proofs.settle.Goals as goal

pub returns-then-lacks_room : goal.returns-then-lacks_room
returns-then-lacks_room c =
    taken _ (sym c.lacks_room.ensures ∙ c.if-lacks_room.true) (rw (c.at_line.ensures.0, c.at_line.ensures.1) at c.refuse.ensures)

pub returns : goal.returns
returns c =
    let x = c.args in
    let zeros = c.zero_words.ensures in
    passed _ (sym c.lacks_room.ensures ∙ c.if-lacks_room.false)
    (zeros_accept x.found.ordinates x.found.blocks x.found.ratios x.work.now _ x.ordinates.now x.records.now zeros)
