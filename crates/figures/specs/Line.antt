-- A line of the listing, from the bytes of a record, and how many bytes it has room in.
use Rattle.std.specs.Prelude.{◌≡◌, List, [], ◌∷◌, ◌++◌, ℕ, ◌+◌, length}
use Rattle.std.proofs.Common.{arith, length-append}
use Rattle.meaning.specs.Lines.{lf, blank}
use Rattle.meaning.specs.Fields.{trim_end, is_blank}
use Rattle.meaning.specs.Listing.{whole, two_places, rounded}
use Rattle.sequences.specs.Parts.{part}
use Rattle.slices.specs.Bytes.{from_little_endian}
use Rattle.figures.specs.declared.Figures.{Figures}

-- The figures that a line shows, and where each stands in a record.
abbrev pub figures_of : List ℕ → Figures
figures_of r =
    record {
      kind = from_little_endian (part 6 1 r);
      area = from_little_endian (part 8 4 r);
      peak = rounded (from_little_endian (part 12 8 r));
      interval = from_little_endian (part 20 2 r);
      sum = from_little_endian (part 24 8 r);
    }

-- A line behind the name.
unfoldable pub figures_text : Figures → List ℕ
figures_text f =
    (blank ∷ whole f.kind)
    ++ (blank ∷ two_places f.area)
    ++ (blank ∷ two_places f.peak)
    ++ (blank ∷ whole f.interval)
    ++ (blank ∷ whole f.sum)
    ++ (lf ∷ [])

unfoldable pub line_of : List ℕ → List ℕ
line_of r = trim_end is_blank (part 0 6 r) ++ figures_text (figures_of r)

-- A line has at most 66 bytes: a name of 6, figures of 3, 11, 15, 5 and 20, their blanks and the line's end.
abbrev pub line_size : ℕ
line_size = 66

pub length-figures : (f : Figures) → length (figures_text f)
    ≡ length (whole f.kind) + length (two_places f.area) + length (two_places f.peak) + length (whole f.interval) + length (whole f.sum) + 6
unfolding figures_text
length-figures f = simp length-append (omega arith)

pub length-line : (r : List ℕ) → length (line_of r) ≡ length (trim_end is_blank (part 0 6 r)) + length (figures_text (figures_of r))
unfolding line_of
length-line r = length-append (trim_end is_blank (part 0 6 r)) (figures_text (figures_of r))
