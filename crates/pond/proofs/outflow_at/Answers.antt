-- `pond::outflow_at` meets its contract: the outflow above the span, and on it.
use Rattle.pond.specs.Spans.{graded_on, graded_over}
use Rattle.pond.proofs.outflow_at.Goals as goal

pub returns-then-s-w : goal.returns-then-s-w
returns-then-s-w c = graded_over c.args.s c.args.w c.requires.1 c.if-s-w.true

pub returns : goal.returns
returns c = graded_on c.args.s c.args.w c.requires.1 _ _ _ c.if-s-w.false c.plain-x.ensures c.plain-share.ensures c.round_down.ensures
