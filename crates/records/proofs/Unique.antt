-- Two outcomes that meet a contract of this crate, as its `ensures` line has it, are equal.
use mathlib.Core.Path.{◌≡◌, sym, ◌∙◌}
use Rattle.sequences.specs.OneOutcome.{Once}
use Rattle.rules.specs.Rules.{one_field, one_rule}
use Rattle.records.proofs.start_of.Kinds as start_of_lem
use Rattle.records.proofs.start_of.Reads as start-of-says
use Rattle.records.proofs.way_of.Kinds as Way-of
use Rattle.records.proofs.way_of.Reads as way-of-says
use Rattle.records.proofs.span_by.Kinds as span-by
use Rattle.records.proofs.span_by.Reads as span-by-says
use Rattle.records.proofs.most_by.Kinds as most-by
use Rattle.records.proofs.most_by.Reads as most-by-says
use Rattle.records.proofs.named_fields.Kinds as named-fields
use Rattle.records.proofs.named_fields.Reads as named-fields-says
use Rattle.records.proofs.place_of.Kinds as place_of
use Rattle.records.proofs.place_of.Reads as place-of-says
use Rattle.records.proofs.rule_at.Kinds as rule-at
use Rattle.records.proofs.rule_at.Reads as rule-at-says
use Rattle.records.proofs.field_at.Kinds as field_at
use Rattle.records.proofs.field_at.Reads as field-at-says

pub one_start_of : Once start_of_lem.ps start_of_lem.r start-of-says.Post (λ κs x y e f. x ≡ y)
one_start_of κs a x y e f p q = cc

pub one_way_of : Once Way-of.ps Way-of.r way-of-says.Post (λ κs x y e f. x ≡ y)
one_way_of κs a x y e f p q = cc

pub one_span_by : Once span-by.ps span-by.r span-by-says.Post (λ κs x y e f. x ≡ y)
one_span_by κs a x y e f p q = cc

pub one_most_by : Once most-by.ps most-by.r most-by-says.Post (λ κs x y e f. x ≡ y)
one_most_by κs a x y e f p q = cc

pub one_named_fields : Once named-fields.ps named-fields.r named-fields-says.Post (λ κs x y e f. x ≡ y)
one_named_fields κs a x y e f p q = cc

pub one_place_of : Once place_of.ps place_of.r place-of-says.Post (λ κs x y e f. x ≡ y)
one_place_of κs a x y e f p q = cc

pub one_rule_at : Once rule-at.ps rule-at.r rule-at-says.Post (λ κs x y e f. x ≡ y)
one_rule_at κs a x y e f p q = one_rule x y (p ∙ sym q)

pub one_field_at : Once field_at.ps field_at.r field-at-says.Post (λ κs x y e f. x ≡ y)
one_field_at κs a x y e f p q = one_field _ _ _ x y p q
