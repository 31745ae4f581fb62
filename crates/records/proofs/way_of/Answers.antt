-- The table has the ways that the rows give.
use Prim.Native.Nat.{ℕ}
use Rattle.meaning.specs.Records.{row_of}
use Rattle.records.specs.Tables.{entry}
use Rattle.records.specs.Rows.{items, way_in}
use borrow.Author.Rules.{rules}
use Rattle.records.proofs.way_of.Goals as goal

pub returns : goal.returns
returns c = entry (λ (p : ℕ). way_in (row_of p)) items c.args.item (search rules)
