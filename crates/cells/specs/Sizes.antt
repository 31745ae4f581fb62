-- How many bytes cells take at most, and the bounds up to which no figure passes 64 bits.
use Rattle.std.specs.Prelude.{ℕ, ◌*◌}

-- A comma, at most 20 digits, the point, six places.
abbrev pub cell_size : ℕ
cell_size = 28

-- The three depths of an interval.
abbrev pub depths_size : ℕ
depths_size = cell_size * 3

-- A depth of 1,666 inches and two thirds, far above any rain; and the largest unit ordinate of a card.
abbrev pub most_depth : ℕ
most_depth = 1_000_000_000

abbrev pub most_unit : ℕ
most_unit = 9_999_999
