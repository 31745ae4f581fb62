-- Two outcomes that meet a contract of this crate, as its `ensures` line has it, are equal: every byte lent, and the place behind what was written.
use mathlib.Core.Path.{◌≡◌}
use Rattle.sequences.specs.OneOutcome.{Once}
use Rattle.text.specs.Written.{written_once}
use Rattle.sheets.proofs.write_title.Kinds as write-title
use Rattle.sheets.proofs.write_title.Reads as write-title-says
use Rattle.sheets.proofs.write_no_sheet.Kinds as write-no-sheet
use Rattle.sheets.proofs.write_no_sheet.Reads as write-no-sheet-says
use Rattle.sheets.proofs.write_table.Kinds as write-table
use Rattle.sheets.proofs.write_table.Reads as write-table-says

pub one_write_title : Once write-title.ps write-title.r write-title-says.Post (λ κs x y e f. (x ≡ y) × (e.0.now ≡ f.0.now))
one_write_title κs a x y e f p q = written_once p q

pub one_write_no_sheet : Once write-no-sheet.ps write-no-sheet.r write-no-sheet-says.Post (λ κs x y e f. (x ≡ y) × (e.0.now ≡ f.0.now))
one_write_no_sheet κs a x y e f p q = written_once p q

pub one_write_table : Once write-table.ps write-table.r write-table-says.Post (λ κs x y e f. (x ≡ y) × (e.0.now ≡ f.0.now))
one_write_table κs a x y e f p q = written_once p q
