-- By what is read of the field: no number, a number with too many places left, or one with few enough.
use mathlib.Core.Path.{sym, ap, ◌∙◌}
use native.Mathlib.Omega.{arith}
use Rattle.numbers.specs.Reading.{number_is}
use Rattle.text.specs.Digits.{whole_within}
use Rattle.text.specs.Written.{written_more}
use Rattle.reasons.specs.Texts.{rule_short, many-places, few_places}
use Rattle.reasons.proofs.write_number_reason.Goals as goal

pub write_number-requires : goal.write_number-requires
write_number-requires c =
    omega (arith, c.write_rule-end.ensures.place, rule_short "PLACES" c.args.places c.args.low c.args.high, c.requires, whole_within c.in-Some.number.places)

pub returns-then-places-left : goal.returns-then-places-left
returns-then-places-left c =
    let x = c.args in
    let n = c.in-Some in
    rw (sym c.read_number.ensures ∙ ap number_is n.is, many-places x.places x.low x.high n.number.minus n.number.digits n.number.places c.if-places-left.true)
    (written_more (omega (arith, c.write_rule-end.ensures.place, rule_short "PLACES" x.places x.low x.high, c.requires)) c.write_rule-end.ensures c.write_number.ensures)

pub returns-in-None : goal.returns-in-None
returns-in-None c = rw (sym c.read_number.ensures ∙ ap number_is c.in-None.is) c.write_rule.ensures

pub returns-else-places-left : goal.returns-else-places-left
returns-else-places-left c =
    let x = c.args in
    let n = c.in-Some in
    rw (sym c.read_number.ensures ∙ ap number_is n.is, few_places x.places x.low x.high n.number.minus n.number.digits n.number.places c.if-places-left.false) c.write_rule-in-Some.ensures
