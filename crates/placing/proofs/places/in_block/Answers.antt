-- In a block the test decides.
use Rattle.std.proofs.Common.{rules, sym, ◌∙◌}
use Rattle.placing.proofs.places.in_block.Goals as goal

pub returns-in-InBlock : goal.returns-in-InBlock
returns-in-InBlock c = λ name. rw (c.in-InBlock.is, ← c.is_repeated.ensures name, c.if-not-is_repeated.true)

pub returns-in_default : goal.returns-in_default
returns-in_default c = λ name. rw (c.in-InBlock.is, ← c.is_repeated.ensures name, c.if-not-is_repeated.false)
