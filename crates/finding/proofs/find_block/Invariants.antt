-- The block looked for is the one looked for from here on, with so many KK left.
use Rattle.std.specs.Prelude.{◌-◌}
use Rattle.meaning.specs.Lines.{lines_of}
use Rattle.meaning.specs.Fields.{Fixed}
use Rattle.meaning.specs.Run.{BeforeTime}
use Rattle.finding.specs.Place.{block_at}
use Rattle.finding.specs.Seeking.{Seeking}
use Rattle.finding.proofs.find_block.Given as goal

abbrev pub invariant-loop : goal.invariant-loop
invariant-loop l = Seeking l.deck (block_at (lines_of l.deck) (BeforeTime Fixed) l.number) l.r l.at l.line (l.number - l.counter) l.cards
