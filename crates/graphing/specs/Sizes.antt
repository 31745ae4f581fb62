-- How many bytes the hydrograph of any block takes at most, and the most minutes that an interval has.
use Rattle.std.specs.Prelude.{ℕ, ◌+◌, ◌*◌}
use Rattle.meaning.specs.Records.{most_ordinates}
use Rattle.cells.specs.Sizes.{cell_size}

abbrev pub most_minutes : ℕ
most_minutes = 1_440

-- The interval's number with the line's end, and three cells.
abbrev pub line_size : ℕ
line_size = cell_size * 4

abbrev pub head_size : ℕ
head_size = 27

abbrev pub hydrograph_size : ℕ
hydrograph_size = head_size + line_size * most_ordinates
