-- `pond::Table::list_w` meets its contract: W of the first rows stands in the list, and behind them what stood there at first.
use Rattle.std.proofs.Common.{ℕ, replicate}
use Rattle.sequences.specs.Rewriting.{Rewritten}
use Rattle.meaning.specs.Pool.{w_of}
use Rattle.pond.specs.Tables.{row_at}
use Rattle.pond.specs.Levels.{no_w}
use Rattle.pond.proofs.Table.list_w.Given as goal

abbrev pub invariant-loop-row : goal.invariant-loop-row
invariant-loop-row l = Rewritten (λ (k : ℕ). w_of l.self.minutes (row_at l.self.svs.now l.self.sqs.now k)) (replicate 21 no_w) l.ws l.row
