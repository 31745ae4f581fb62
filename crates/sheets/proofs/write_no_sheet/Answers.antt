-- The line is that of a word and a number.
use native.Mathlib.Omega.{arith}
use Rattle.meaning.specs.Words.{bytes}
use Rattle.meaning.specs.Sheet.{no_sheet_line}
use Rattle.text.specs.Line.{told_short}
use Rattle.sheets.proofs.write_no_sheet.Goals as goal

pub write_told-requires : goal.write_told-requires
write_told-requires c = omega (arith, told_short (bytes "NO SHEET ") c.args.kind (omega arith))

pub returns : goal.returns
unfolding no_sheet_line
returns c = c.write_told.ensures
