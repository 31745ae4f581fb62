-- After k turns the rows of the first k intervals are written, where they have excess.
use Rattle.std.proofs.Common.{◌+◌, ◌*◌, ◌≤◌, ◌≡◌, ◌∙◌, length, arith}
use Rattle.text.specs.Written.{written_more}
use Rattle.cells.specs.Cells.{measure_is}
use Rattle.sheets.specs.Sizes.{row_size}
use Rattle.sheets.specs.Tables.{columns_are}
use Rattle.sheets.specs.Lines.{rows_more}
use Rattle.sheets.specs.Room.{all_short, rows_up}
use Rattle.sheets.proofs.write_rows.Goals as goal

pub write_interval-at-requires : goal.write_interval-at-requires
write_interval-at-requires c =
    let x = c.args in
    let l = c.loop-k in
    let sheet = columns_are x.columns.now in
    let n = length x.columns.now.excesses.now in
    let reached : l.at ≤ x.start + row_size n * l.k = omega (arith, l.invariant.1.place, all_short (measure_is x.measure) sheet l.k) in
    record { ruled = c.requires.ruled; k_in_bounds = (omega arith, omega (arith, rows_up (row_size n) n l.k (omega arith))) }

pub loop-k-preserved : goal.loop-k-preserved
loop-k-preserved c =
    let x = c.args in
    let l = c.loop-k in
    let sheet = columns_are x.columns.now in
    let n = length x.columns.now.excesses.now in
    let reached : l.at ≤ x.start + row_size n * l.k = omega (arith, l.invariant.1.place, all_short (measure_is x.measure) sheet l.k) in
    let room : l.at + row_size n ≤ length l.out = omega (arith, rows_up (row_size n) n l.k (omega arith)) in
    let written = c.write_interval-at in (
      written.auto.out ∙ l.invariant.0,
      rw (rows_more (measure_is x.measure) sheet l.k) (written_more (omega arith) l.invariant.1 written.ensures),
    )

pub returns : goal.returns
returns c =
    let l = c.loop-k in
    let all : l.k ≡ length c.args.columns.now.excesses.now = omega arith in
    rw all at l.invariant.1
