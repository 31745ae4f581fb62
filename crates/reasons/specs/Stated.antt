-- The rules and the fields of a record as the definitions state them, by its place: a record of a block, and behind these the time control and the ratios.
--     stated_rules     the rules
--     named_in         how many fields have a value whether they are written or not
--     stated_fields    the fields that are looked at
use Rattle.std.specs.Prelude.{ℕ, suc, ◌-◌, List, [], ◌++◌, length, replicate}
use Rattle.meaning.specs.Words.{◌=?◌, when◌then◌else◌}
use Rattle.meaning.specs.Records.{Rule, Item, ratio_rules}
use Rattle.records.specs.Rows.{items, field_row, rules_by, span_in}

abbrev pub stated_rules : Item → List Rule
stated_rules item = when item =? suc items then ratio_rules else rules_by item

abbrev pub named_in : Item → ℕ
named_in item = when item =? suc items then 2 else span_in (field_row item) 0

abbrev pub stated_fields : Item → List (List ℕ) → List (List ℕ)
stated_fields item fs = fs ++ replicate (named_in item - length fs) []
