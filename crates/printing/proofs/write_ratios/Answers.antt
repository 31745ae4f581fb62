-- After i turns the lines under the first i ratios are written. A turn's records are one lot of all, and its lines take one part of the room.
use Rattle.std.proofs.Common.{ℕ, ◌+◌, ◌*◌, ◌≤◌, ◌≡◌, ◌∙◌, length, arith}
use lib.ListN.{length-take, length-drop}
use Rattle.meaning.specs.Results.{record_size}
use Rattle.meaning.specs.Blocks.{or_whole}
use Rattle.meaning.specs.Run.{record_bytes}
use Rattle.sequences.specs.Bounds.{AllUpTo}
use Rattle.text.specs.Written.{written_more}
use Rattle.figures.specs.Line.{line_size}
use Rattle.printing.specs.Sizes.{ratio_size}
use Rattle.printing.specs.Lines.{under_more, under_here}
use Rattle.printing.specs.Room.{lots_up, lot_fits, under_short, listed_few}
use Rattle.printing.proofs.write_ratios.Goals as goal

pub write_under-at-requires : goal.write_under-at-requires
write_under-at-requires c =
    let x = c.args in
    let l = c.loop-i in
    let n = length (or_whole x.ratios.now) in
    let lot : record_bytes x.blocks l.i + record_size * x.blocks ≤ length x.records.now = omega (arith, lot_fits x.blocks l.i n (omega (arith, listed_few x.ratios.now))) in
    let bytes : AllUpTo 255 x.records.now = λ (j : ℕ). grind arith in
    let up = lots_up (ratio_size + line_size * x.blocks) l.i n (omega (arith, listed_few x.ratios.now)) in
    let before = under_short x.ratios.now x.blocks x.records.now c.requires.small bytes l.i (omega arith) in
    let room : l.at + (ratio_size + line_size * x.blocks) ≤ length l.out = omega (arith, l.invariant.1.place) in
    (c.requires.small l.i, simp (length-take, length-drop) (omega arith), room)

pub loop-i-preserved : goal.loop-i-preserved
loop-i-preserved c =
    let x = c.args in
    let l = c.loop-i in
    let n = length (or_whole x.ratios.now) in
    let lot : record_bytes x.blocks l.i + record_size * x.blocks ≤ length x.records.now = omega (arith, lot_fits x.blocks l.i n (omega (arith, listed_few x.ratios.now))) in
    let bytes : AllUpTo 255 x.records.now = λ (j : ℕ). grind arith in
    let up = lots_up (ratio_size + line_size * x.blocks) l.i n (omega (arith, listed_few x.ratios.now)) in
    let before = under_short x.ratios.now x.blocks x.records.now c.requires.small bytes l.i (omega arith) in
    let room : l.at + (ratio_size + line_size * x.blocks) ≤ length l.out = omega (arith, l.invariant.1.place) in
    let written = c.write_under-at in
    let here = under_here x.ratios.now x.blocks x.records.now l.i written.ensures (omega arith) (omega arith) in
    (written.auto.out ∙ l.invariant.0, rw under_more (written_more (omega arith) l.invariant.1 here))

pub returns : goal.returns
returns c =
    let l = c.loop-i in
    let all : l.i ≡ length c.args.ratios.now = omega arith in
    rw all at l.invariant.1
