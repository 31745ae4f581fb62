-- The rule of the table, and the field by it; every rule of the table allows few places.
use Rattle.records.specs.OwnRules.{few_places}
use Rattle.records.proofs.field_at.Goals as goal

pub read_field-requires : goal.read_field-requires
read_field-requires c = rw c.rule_at.ensures (few_places c.args.item c.args.k)

pub returns : goal.returns
returns c = rw c.rule_at.ensures at c.read_field.ensures
