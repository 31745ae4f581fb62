-- By the form.
use Rattle.scanning.proofs.blank_span.Goals as goal

pub returns-then-free : goal.returns-then-free
returns-then-free c = rw c.if-free.true

pub returns : goal.returns
returns c = rw c.if-free.false
