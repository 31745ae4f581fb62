-- The table has the starts that the rows give.
use Prim.Native.Nat.{suc}
use mathlib.Core.Path.{◌∙◌}
use Rattle.meaning.specs.Records.{table}
use Rattle.records.specs.Tables.{entry}
use Rattle.records.specs.Rows.{start_of, items, start}
use borrow.Author.Rules.{rules}
use Rattle.records.proofs.start_of.Goals as goal

pub returns : goal.returns
unfolding start
returns c = c.wide.ensures ∙ entry (start_of table) (suc items) c.args.item (search rules)
