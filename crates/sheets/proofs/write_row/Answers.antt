-- The interval's number, its depths, its shares and the line's end, one behind another, in the cells that a row has room for.
use Rattle.std.proofs.Common.{◌+◌, ◌*◌, ◌≤◌, length, arith}
use Rattle.text.specs.Digits.{whole_within}
use Rattle.text.specs.Written.{written_more}
use Rattle.cells.specs.Sizes.{cell_size, depths_size}
use Rattle.cells.specs.Cells.{measure_is}
use Rattle.cells.specs.Room.{behind_depths}
use Rattle.sheets.specs.Tables.{columns_are}
use Rattle.sheets.specs.Lines.{row_here}
use Rattle.sheets.specs.Room.{behind_shares}
use Rattle.sheets.proofs.write_row.Goals as goal

pub write_whole-depths-requires : goal.write_whole-depths-requires
write_whole-depths-requires c = omega (arith, whole_within (c.args.k + 1))

pub write_depths-shares-requires : goal.write_depths-shares-requires
write_depths-shares-requires c =
    let k = c.args.k in
    let ruled = c.requires.ruled in
    let rain = ruled.rains-up k in
    let loss = ruled.losses-up k in
    let excess = ruled.excesses-up k in
    let from_number : c.write_whole-depths.result ≤ c.args.at + 20 = omega (arith, c.write_whole-depths.ensures.place, whole_within (k + 1)) in
    (omega arith, omega arith, omega arith, omega arith)

pub write_shares-end-requires : goal.write_shares-end-requires
write_shares-end-requires c =
    let k = c.args.k in
    let ruled = c.requires.ruled in
    let from_number : c.write_whole-depths.result ≤ c.args.at + 20 = omega (arith, c.write_whole-depths.ensures.place, whole_within (k + 1)) in
    (ruled.units-up, ruled.excesses-up k, omega (arith, behind_depths (measure_is c.args.measure) _ _ _ c.write_depths-shares.ensures))

pub write_byte-requires : goal.write_byte-requires
write_byte-requires c =
    let x = c.args in
    let from_number : c.write_whole-depths.result ≤ x.at + 20 = omega (arith, c.write_whole-depths.ensures.place, whole_within (x.k + 1)) in
    let from_depths : c.write_depths-shares.result ≤ x.at + 20 + depths_size = omega (arith, behind_depths (measure_is x.measure) _ _ _ c.write_depths-shares.ensures) in
    omega (arith, behind_shares (measure_is x.measure) x.columns.now.units.now _ _ (length x.columns.now.excesses.now) c.write_shares-end.ensures)

pub returns : goal.returns
returns c =
    let x = c.args in
    let from_number : c.write_whole-depths.result ≤ x.at + 20 = omega (arith, c.write_whole-depths.ensures.place, whole_within (x.k + 1)) in
    let from_depths : c.write_depths-shares.result ≤ x.at + 20 + depths_size = omega (arith, behind_depths (measure_is x.measure) _ _ _ c.write_depths-shares.ensures) in
    let from_shares : c.write_shares-end.result ≤ x.at + 20 + depths_size + cell_size * length x.columns.now.excesses.now =
    omega (arith, behind_shares (measure_is x.measure) x.columns.now.units.now _ _ (length x.columns.now.excesses.now) c.write_shares-end.ensures) in
    let text =
    written_more (omega arith)
    (written_more (omega arith)
    (written_more (omega arith) c.write_whole-depths.ensures c.write_depths-shares.ensures)
    c.write_shares-end.ensures)
    c.write_byte.ensures in
    row_here (measure_is x.measure) (columns_are x.columns.now) x.k text
    (omega arith)
    (omega arith)
    (omega arith)
    (omega arith)
    (omega arith)
    (omega arith)
