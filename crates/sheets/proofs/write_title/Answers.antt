-- The measure, the ratio, the name and the line's end, one behind another.
use native.Mathlib.Omega.{arith}
use Rattle.meaning.specs.Sheet.{title_line}
use Rattle.text.specs.Written.{written_more}
use Rattle.cells.specs.Cells.{measure_is}
use Rattle.sheets.specs.Room.{measure_short, ratio_within}
use Rattle.sheets.proofs.write_title.Goals as goal

pub write_two_places-comma-requires : goal.write_two_places-comma-requires
write_two_places-comma-requires c =
    let x = c.args in
    omega (arith, measure_short (measure_is x.measure), ratio_within x.ratio)

pub write_byte-third-requires : goal.write_byte-third-requires
write_byte-third-requires c =
    let x = c.args in
    omega (arith, measure_short (measure_is x.measure), ratio_within x.ratio)

pub write_text-end-requires : goal.write_text-end-requires
write_text-end-requires c =
    let x = c.args in
    omega (arith, measure_short (measure_is x.measure), ratio_within x.ratio)

pub write_byte-requires : goal.write_byte-requires
write_byte-requires c =
    let x = c.args in
    omega (arith, measure_short (measure_is x.measure), ratio_within x.ratio)

pub returns : goal.returns
unfolding title_line
returns c =
    let x = c.args in
    let measure = measure_short (measure_is x.measure) in
    let places = ratio_within x.ratio in
    written_more (omega arith)
    (written_more (omega arith)
    (written_more (omega arith)
    (written_more (omega arith) c.write_measure-second.ensures c.write_two_places-comma.ensures)
    c.write_byte-third.ensures)
    c.write_text-end.ensures)
    c.write_byte.ensures
