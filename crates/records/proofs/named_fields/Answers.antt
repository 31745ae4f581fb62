-- The table has the counts that the rows give.
use Prim.Native.Nat.{ℕ, suc}
use mathlib.Core.Path.{◌∙◌}
use Rattle.records.specs.Tables.{entry}
use Rattle.records.specs.Rows.{items, field_row, span_in}
use borrow.Author.Rules.{rules}
use Rattle.records.proofs.named_fields.Goals as goal

pub returns : goal.returns
returns c = c.wide.ensures ∙ entry (λ (p : ℕ). span_in (field_row p) 0) (suc (suc items)) c.args.item (search rules)
