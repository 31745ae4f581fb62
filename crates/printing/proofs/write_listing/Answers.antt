-- The lines of all records, which have room, and the last line behind them.
use Rattle.std.proofs.Common.{ℕ, arith}
use Rattle.sequences.specs.Bounds.{AllUpTo}
use Rattle.text.specs.Written.{written_more}
use Rattle.printing.specs.Lines.{listing_of}
use Rattle.printing.specs.Room.{blocks_short, end_short}
use Rattle.printing.proofs.write_listing.Goals as goal

pub write_end-requires : goal.write_end-requires
write_end-requires c =
    let x = c.args in
    let bytes : AllUpTo 255 x.records.now = λ (j : ℕ). grind arith in
    let short = blocks_short x.ratios.now x.blocks x.records.now c.requires.small bytes c.requires.all in
    omega (arith, short, c.write_blocks-at.ensures.place, end_short x.blocks (omega arith))

pub returns : goal.returns
unfolding listing_of
returns c =
    let x = c.args in
    let bytes : AllUpTo 255 x.records.now = λ (j : ℕ). grind arith in
    let short = blocks_short x.ratios.now x.blocks x.records.now c.requires.small bytes c.requires.all in
    written_more (omega (arith, short, c.write_blocks-at.ensures.place)) c.write_blocks-at.ensures c.write_end.ensures
