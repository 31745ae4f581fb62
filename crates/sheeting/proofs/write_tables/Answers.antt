-- Two titles and two tables, one behind another. Each begins where the one before ends, and none is longer than its size.
use Rattle.std.proofs.Common.{ℕ, ◌+◌, ◌≤◌, List, length, arith}
use Rattle.meaning.specs.Records.{most_ordinates}
use Rattle.meaning.specs.Sheet.{Measure, Units, Customary, title_line, table_text}
use Rattle.text.specs.Written.{written_more}
use Rattle.sheets.specs.declared.Columns.{Columns}
use Rattle.sheets.specs.Sizes.{title_size, table_size}
use Rattle.sheets.specs.Tables.{columns_are}
use Rattle.sheets.specs.Room.{title_short, table_short, table_most}
use Rattle.sheeting.proofs.write_tables.Goals as goal

-- how much a title and a table take
title_fits : (m : Measure) (ratio : ℕ) (name : List ℕ) → length name ≤ 6 → length (title_line m ratio name) ≤ title_size 6
title_fits m ratio name short = omega (arith, title_short m ratio name)

table_fits : (m : Measure) (columns : Columns) → length columns.excesses.now ≤ most_ordinates → length (table_text m (columns_are columns) columns.sums.now) ≤ table_size most_ordinates
table_fits m columns few = omega (arith, table_short m (columns_are columns) columns.sums.now, table_most (length columns.excesses.now) few)

pub write_table-next-requires-clause-sums_len : goal.write_table-next-requires-clause-sums_len
write_table-next-requires-clause-sums_len c =
    let x = c.args in
    let r = c.requires.sums_len in
    let behind-title : c.write_title-exact.result ≤ title_size 6 = omega (arith, c.write_title-exact.ensures.place, title_fits Units x.ratio x.name.now r.2) in
    (r.0, omega (arith, table_most (length x.columns.now.excesses.now) r.1, r.3))

pub write_title-rounded-requires : goal.write_title-rounded-requires
write_title-rounded-requires c =
    let x = c.args in
    let r = c.requires.sums_len in
    let behind-title : c.write_title-exact.result ≤ title_size 6 = omega (arith, c.write_title-exact.ensures.place, title_fits Units x.ratio x.name.now r.2) in
    let behind-table : c.write_table-next.result ≤ title_size 6 + table_size most_ordinates = omega (arith, c.write_table-next.ensures.place, table_fits Units x.columns.now r.1) in
    omega (arith, r.2, r.3)

pub write_table-requires-clause-sums_len : goal.write_table-requires-clause-sums_len
write_table-requires-clause-sums_len c =
    let x = c.args in
    let r = c.requires.sums_len in
    let behind-title : c.write_title-exact.result ≤ title_size 6 = omega (arith, c.write_title-exact.ensures.place, title_fits Units x.ratio x.name.now r.2) in
    let behind-table : c.write_table-next.result ≤ title_size 6 + table_size most_ordinates = omega (arith, c.write_table-next.ensures.place, table_fits Units x.columns.now r.1) in
    (r.0, omega (arith, c.write_title-rounded.ensures.place, title_fits Customary x.ratio x.name.now r.2, table_most (length x.columns.now.excesses.now) r.1, r.3))

pub returns : goal.returns
returns c =
    let x = c.args in
    let r = c.requires.sums_len in
    let behind-title : c.write_title-exact.result ≤ title_size 6 = omega (arith, c.write_title-exact.ensures.place, title_fits Units x.ratio x.name.now r.2) in
    let behind-table : c.write_table-next.result ≤ title_size 6 + table_size most_ordinates = omega (arith, c.write_table-next.ensures.place, table_fits Units x.columns.now r.1) in
    written_more (omega (arith, c.write_title-rounded.ensures.place, title_fits Customary x.ratio x.name.now r.2, r.3))
    (written_more (omega (arith, r.3))
    (written_more (omega (arith, r.3)) c.write_title-exact.ensures c.write_table-next.ensures)
    c.write_title-rounded.ensures)
    c.write_table.ensures
