-- A line has ten fields at most.
use mathlib.Core.Path.{◌∙◌}
use Rattle.records.specs.OwnRules.{past_ten, within_ten}
use Rattle.records.proofs.rule_at.Goals as goal

pub returns-then-k-ge10 : goal.returns-then-k-ge10
returns-then-k-ge10 c = past_ten c.args.item c.args.k c.if-k-ge10.true

pub returns : goal.returns
returns c = c.own_rule.ensures ∙ within_ten c.args.item c.args.k c.if-k-ge10.false
