-- Each arm computes; past its fields a record has none.
use mathlib.Core.Path.{ap}
use native.Mathlib.Omega.{arith}
use Rattle.records.specs.Rows.{field_row}
use Rattle.records.specs.OwnRules.{past_last, past_fields, like_fields, no_rule}
use Rattle.records.proofs.own_rule.Goals as goal

pub returns-in-3-k : goal.returns-in-3-k
returns-in-3-k c = rw (c.in-11.is, c.in-3-k.is)

pub returns-in_default-k : goal.returns-in_default-k
returns-in_default-k c = past_fields _ (ap field_row c.in-11.is) c.in_default-k.in_default-k-own.rest

pub returns-in-0-k-2 : goal.returns-in-0-k-2
returns-in-0-k-2 c = rw (c.in-12.is, c.in-0-k-2.is, c.number.ensures)

pub returns-in-1-to-9 : goal.returns-in-1-to-9
returns-in-1-to-9 c = like_fields _ (ap field_row c.in-12.is) c.in-1-to-9.in_default-own.rest.1 c.in-1-to-9.if-k-lt10-own.true

pub returns-in_default-k-2 : goal.returns-in_default-k-2
returns-in_default-k-2 c = past_last _ (ap field_row c.in-12.is) (omega arith)

pub returns-in_default-k-3 : goal.returns-in_default-k-3
returns-in_default-k-3 c = past_fields _ (ap field_row c.in-0.is) c.in_default-k-3.in_default-k-3-own.rest

pub returns-in_default-k-4 : goal.returns-in_default-k-4
returns-in_default-k-4 c = past_fields _ (ap field_row c.in-2.is) c.in_default-k-4.in_default-k-4-own.rest

pub returns-in_default-k-5 : goal.returns-in_default-k-5
returns-in_default-k-5 c = past_fields _ (ap field_row c.in-5.is) c.in_default-k-5.in_default-k-5-own.rest

pub returns-in_default-k-6 : goal.returns-in_default-k-6
returns-in_default-k-6 c = past_fields _ (ap field_row c.in-6.is) c.in_default-k-6.in_default-k-6-own.rest

pub returns-in_default-k-7 : goal.returns-in_default-k-7
returns-in_default-k-7 c = past_fields _ (ap field_row c.in-7.is) c.in_default-k-7.in_default-k-7-own.rest

pub returns-in-1-k-4 : goal.returns-in-1-k-4
returns-in-1-k-4 c = rw (c.in-8.is, c.in-1-k-4.is, c.number-in-1-k-4.ensures)

pub returns-in_default-k-8 : goal.returns-in_default-k-8
returns-in_default-k-8 c = past_fields _ (ap field_row c.in-8.is) c.in_default-k-8.in_default-k-8-own.rest

pub returns-in_default : goal.returns-in_default
returns-in_default c = no_rule c.args.item _ c.in_default.in_default-own.rest
