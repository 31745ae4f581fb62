-- The last line is that of a word and a number.
use Rattle.meaning.specs.Listing.{end_line}
use Rattle.printing.proofs.write_end.Goals as goal

pub write_told-requires : goal.write_told-requires
unfolding end_line
write_told-requires c = c.requires

pub returns : goal.returns
unfolding end_line
returns c = c.write_told.ensures
