-- `excess::rate` meets its contract: a ratio of 1.00 cuts nothing off and adds nothing.
use mathlib.Core.Path.{sym}
use Rattle.excess.specs.Storms.{rated-whole}
use Rattle.excess.proofs.rate.Goals as goal

pub returns-else-ratio-ne100 : goal.returns-else-ratio-ne100
returns-else-ratio-ne100 c = rw c.if-ratio-ne100.false (sym (rated-whole c.args.rain.now))

pub returns-then-ratio-ne100 : goal.returns-then-ratio-ne100
returns-then-ratio-ne100 c = c.cut.ensures
