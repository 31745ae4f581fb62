-- Without ratios the lines of the records are all, and with them those under each ratio.
use Prim.Native.Nat.{◌+◌, ◌*◌}
use Rattle.std.proofs.Common.{arith, ◌≡◌, ◌∙◌, sym, eqb-true}
use Rattle.std.proofs.lemmas.Bool.{eqb-false}
use lib.ListN.{length}
use Rattle.meaning.specs.Blocks.{or_whole}
use Rattle.figures.specs.Line.{line_size}
use Rattle.printing.specs.Sizes.{ratio_size}
use Rattle.printing.specs.Lines.{blocks_alone, blocks_under}
use Rattle.printing.specs.Room.{lots_up, lot_fits, one_there}
use Rattle.printing.proofs.write_blocks.Goals as goal

pub write_lines-requires : goal.write_lines-requires
write_lines-requires c =
    let x = c.args in
    let n = length (or_whole x.ratios.now) in
    let some = one_there x.ratios.now in
    (omega (arith, lot_fits x.blocks 0 n some), omega (arith, lots_up (ratio_size + line_size * x.blocks) 0 n some))

pub returns-then-is_empty : goal.returns-then-is_empty
returns-then-is_empty c =
    let x = c.args in
    rw (blocks_alone x.ratios.now x.blocks x.records.now (eqb-true (length x.ratios.now) 0 (sym c.is_empty.ensures ∙ c.if-is_empty.true))) c.write_lines.ensures

pub returns : goal.returns
returns c =
    let x = c.args in
    let some : length x.ratios.now ≡ 0 → ⊥ = eqb-false (length x.ratios.now) 0 (sym c.is_empty.ensures ∙ c.if-is_empty.false) in
    rw (blocks_under x.ratios.now x.blocks x.records.now some) c.write_ratios.ensures
