-- The rule of the reading; of JR a number's lowest value is raised to 1.
use mathlib.Core.Path.{sym, ap, ◌∙◌}
use Rattle.meaning.specs.Records.{rule_at}
use Rattle.records.specs.Rows.{rules_by}
use Rattle.records.specs.OwnRules.{few_places}
use Rattle.reasons.specs.ByRecord.{raised, raised_few, stated_same, stated-raised}
use Rattle.reasons.proofs.stated_rule.Goals as goal

pub returns-then-item-eq-JR : goal.returns-then-item-eq-JR
returns-then-item-eq-JR c =
    let x = c.args in
    let rule = c.rule_at-rule in
    let same = c.raise.ensures ∙ ap raised rule.ensures in
    (same ∙ sym (stated-raised x.item x.k c.if-item-eq-JR.true), rw same (raised_few (rule_at (rules_by x.item) x.k) (few_places x.item x.k)))

pub returns : goal.returns
returns c =
    let x = c.args in
    let rule = c.rule_at-rule in
    (rule.ensures ∙ sym (stated_same x.item x.k c.if-item-eq-JR.false), rw rule.ensures (few_places x.item x.k))
