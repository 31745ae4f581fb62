-- How much room a line takes: at most line_size bytes.
use Rattle.std.specs.Prelude.{◌≡◌, List, ℕ, ◌+◌, ◌/◌, ◌^◌, ◌≤◌, ◌<◌, length}
use Rattle.std.proofs.Common.{arith}
use Rattle.meaning.specs.Fields.{is_blank}
use Rattle.meaning.specs.Results.{record_size}
use Rattle.sequences.specs.Bounds.{AllUpTo, bound_part}
use Rattle.sequences.specs.Parts.{part, length_part}
use Rattle.sequences.specs.Trimming.{trim_within}
use Rattle.slices.specs.Bytes.{from_little_endian, value_below}
use Rattle.text.specs.Digits.{whole_short, length-two_places}
use Rattle.figures.specs.Line.{figures_of, line_of, line_size, length-figures, length-line}

module _ (r : List ℕ) (bytes : AllUpTo 255 r) (long : length r ≡ record_size) where
  figure_below : (a n : ℕ) → a + n ≤ record_size → from_little_endian (part a n r) < 256 ^ n
  figure_below a n h =
      let fits : a + n ≤ length r = omega arith in
      rw (length_part a n r fits) at (value_below (part a n r) (bound_part 255 a n r bytes))

  pub line_short : length (line_of r) ≤ line_size
  line_short =
      let f = figures_of r in
      let six : 0 + 6 ≤ length r = omega arith in
      let name = trim_within is_blank (part 0 6 r) in
      let kind = figure_below 6 1 (omega arith) in
      let area = figure_below 8 4 (omega arith) in
      let peak = figure_below 12 8 (omega arith) in
      let interval = figure_below 20 2 (omega arith) in
      let sum = figure_below 24 8 (omega arith) in
      omega (
        arith,
        length-line r,
        length_part 0 6 r six,
        name,
        length-figures f,
        whole_short 2 f.kind (omega arith),
        length-two_places f.area,
        whole_short 7 (f.area / 100) (omega arith),
        length-two_places f.peak,
        whole_short 11 (f.peak / 100) (omega arith),
        whole_short 4 f.interval (omega arith),
        whole_short 19 f.sum (omega arith),
      )
