-- `pond::Table::list_rises` meets its contract: of the first rows it is listed by how much W rises to the next one.
use Rattle.std.proofs.Common.{replicate}
use Rattle.sequences.specs.Rewriting.{Rewritten}
use Rattle.pond.specs.Levels.{rise_at}
use Rattle.pond.proofs.Table.list_rises.Given as goal

abbrev pub invariant-loop-row : goal.invariant-loop-row
invariant-loop-row l = Rewritten (rise_at l.self.minutes l.self.svs.now l.self.sqs.now) (replicate 20 0) l.rises l.row
