-- A value that is there, or 0.
use Rattle.std.proofs.Common.{rules, sym}
use Rattle.blocks.proofs.value_at.Goals as goal

pub returns : goal.returns
returns c = λ name. rw (sym (c.values.ensures name)) (search rules)
