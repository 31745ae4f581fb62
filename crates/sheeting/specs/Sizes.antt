-- How many bytes the sheet of any block takes at most.
use Rattle.std.specs.Prelude.{ℕ, ◌+◌, ◌*◌}
use Rattle.meaning.specs.Records.{most_ordinates}
use Rattle.sheets.specs.Sizes.{title_size, table_size}

-- A title and a table, in each of the two measures; a name has at most six letters.
abbrev pub sheet_size : ℕ
sheet_size = 2 * (title_size 6 + table_size most_ordinates)
