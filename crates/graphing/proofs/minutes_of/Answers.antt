-- Where the first block is found, its time control has the minutes, within the limits of the table.
use Rattle.std.proofs.Common.{arith}
use Rattle.meaning.specs.Lines.{lines_of}
use Rattle.meaning.specs.Fields.{Fixed}
use Rattle.meaning.specs.Run.{BeforeTime}
use Rattle.finding.specs.Place.{block_at}
use Rattle.graphing.specs.Texts.{minutes_there, no_minutes}
use Rattle.graphing.proofs.minutes_of.Goals as goal

pub returns-in-Some : goal.returns-in-Some
returns-in-Some c = minutes_there c.in-Some.found c.find_block.new.cards (block_at (lines_of c.args.deck.now) (BeforeTime Fixed) 1) c.in-Some.ensures

pub returns-in-None : goal.returns-in-None
returns-in-None c = (no_minutes c.find_block.new.cards (block_at (lines_of c.args.deck.now) (BeforeTime Fixed) 1) c.in-None.ensures, omega arith)
