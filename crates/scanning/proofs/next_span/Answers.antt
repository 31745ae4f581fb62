-- A field of the line, or a blank one behind it.
use borrow.Author.Tests.{lt-ltb, le-ltb}
use Rattle.sequences.specs.Choices.{taken, passed}
use Rattle.scanning.proofs.next_span.Goals as goal

pub returns-then-c-l : goal.returns-then-c-l
returns-then-c-l c = taken _ (lt-ltb _ _ c.if-c-l.true) c.span_at.ensures

pub returns : goal.returns
returns c = passed _ (le-ltb _ _ c.if-c-l.false) c.blank_span.ensures
