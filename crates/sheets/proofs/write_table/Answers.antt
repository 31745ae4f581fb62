-- The head, the rows and the sums, one behind another. There are as many sums as excesses.
use Rattle.std.proofs.Common.{◌+◌, ◌*◌, ◌≤◌, length, arith}
use Rattle.text.specs.Written.{written_more}
use Rattle.cells.specs.Cells.{measure_is}
use Rattle.sheets.specs.Sizes.{row_size}
use Rattle.sheets.specs.Tables.{columns_are}
use Rattle.sheets.specs.Room.{head_short, all_short, rows_all}
use Rattle.sheets.proofs.write_table.Goals as goal

pub write_rows-last-requires : goal.write_rows-last-requires
write_rows-last-requires c =
    let n = length c.args.columns.now.excesses.now in
    record {
      ruled = c.requires.ruled;
      excesses_in_bounds = omega (arith, c.write_head-rows.ensures.place, head_short n, rows_all (row_size n) n, c.requires.sums_len.1);
    }

pub write_sums-requires : goal.write_sums-requires
write_sums-requires c =
    let x = c.args in
    let n = length x.columns.now.excesses.now in
    let sheet = columns_are x.columns.now in
    let short = all_short (measure_is x.measure) sheet n in
    let behind_head : c.write_head-rows.result ≤ x.at + row_size n = omega (arith, c.write_head-rows.ensures.place, head_short n) in
    let behind_rows : c.write_rows-last.result ≤ x.at + row_size n + row_size n * n = omega (arith, c.write_rows-last.ensures.place, short) in
    omega (arith, rows_all (row_size n) n, c.requires.sums_len.1)

pub returns : goal.returns
returns c =
    let x = c.args in
    let n = length x.columns.now.excesses.now in
    let sheet = columns_are x.columns.now in
    let short = all_short (measure_is x.measure) sheet n in
    let behind_head : c.write_head-rows.result ≤ x.at + row_size n = omega (arith, c.write_head-rows.ensures.place, head_short n) in
    let behind_rows : c.write_rows-last.result ≤ x.at + row_size n + row_size n * n = omega (arith, c.write_rows-last.ensures.place, short) in
    let all = rows_all (row_size n) n in
    let room = c.requires.sums_len.1 in
    written_more (omega arith) (written_more (omega arith) c.write_head-rows.ensures c.write_rows-last.ensures) (rw c.requires.sums_len.0 at c.write_sums.ensures)
