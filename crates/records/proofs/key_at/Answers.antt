-- The table has the numbers that the identifiers give.
use Prim.Native.Nat.{ℕ}
use mathlib.Core.Path.{◌∙◌}
use Rattle.meaning.specs.Records.{row_of}
use Rattle.records.specs.Tables.{entry}
use Rattle.records.specs.Rows.{items}
use Rattle.records.specs.Keys.{key_in}
use borrow.Author.Rules.{rules}
use Rattle.records.proofs.key_at.Goals as goal

pub returns : goal.returns
returns c = c.wide.ensures ∙ entry (λ (p : ℕ). key_in (row_of p)) items c.args.item (search rules)
