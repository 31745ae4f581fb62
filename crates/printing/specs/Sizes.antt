-- How many bytes lines take in print: those under some ratios, the last line, and the line of a refusal.
--     Roomy    what a listing is written from and into: all its records, room for its lines, and ratios that have their line's room
use Rattle.std.specs.Prelude.{ℕ, ◌+◌, ◌*◌, ◌≤◌, List, length}
use Rattle.meaning.specs.Blocks.{or_whole}
use Rattle.meaning.specs.Run.{record_bytes}
use Rattle.sequences.specs.Bounds.{AllUpTo}
use Rattle.figures.specs.Line.{line_size}

-- A ratio of at most 9.99 has "RATIO ", four bytes, the line's end.
abbrev pub most_ratio : ℕ
most_ratio = 999

abbrev pub ratio_size : ℕ
ratio_size = 11

-- Under each ratio its line and those of the blocks.
abbrev pub lines_size : (blocks ratios : ℕ) → ℕ
lines_size blocks ratios = (ratio_size + line_size * blocks) * ratios

-- "END ", at most 20 digits, the line's end.
abbrev pub end_size : ℕ
end_size = 25

-- "REFUSED ", twice at most 20 digits, a blank, the line's end.
abbrev pub refusal_size : ℕ
refusal_size = 50

pub record Roomy (ratios : List ℕ) (blocks records out : ℕ) : Type 0 where
  pub small : AllUpTo most_ratio ratios
  pub all : record_bytes blocks (length (or_whole ratios)) ≤ records
  pub room : lines_size blocks (length (or_whole ratios)) + end_size ≤ out
