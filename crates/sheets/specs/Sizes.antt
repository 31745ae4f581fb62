-- How many bytes the lines and the table of a sheet take at most.
use Rattle.std.specs.Prelude.{ℕ, ◌+◌, ◌*◌}
use Rattle.cells.specs.Sizes.{cell_size}

-- "inches and cfs,".
abbrev pub name_size : ℕ
name_size = 15

-- At most 20 digits, the point, two places, a comma.
abbrev pub ratio_size : ℕ
ratio_size = 24

-- The measure, the ratio, the name, the line's end.
abbrev pub title_size : (name : ℕ) → ℕ
title_size name = name_size + ratio_size + name + 1

-- "NO SHEET ", at most 20 digits, the line's end.
abbrev pub no_sheet_size : ℕ
no_sheet_size = 30

-- The interval's number with the line's end, the three depths, and a cell for each ordinate. The head and the sums have no more.
abbrev pub row_size : (intervals : ℕ) → ℕ
row_size intervals = cell_size * (intervals + 4)

-- The head, a row for each interval, and the sums.
abbrev pub table_size : (intervals : ℕ) → ℕ
table_size intervals = row_size intervals * (intervals + 2)
