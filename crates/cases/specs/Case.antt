-- What a case says before its deck, and where each number stands.
--     case-of     six numbers that stand there are the case
use Rattle.std.specs.Prelude.{ℕ, ◌≡◌, List}
use Rattle.sequences.specs.Parts.{part}
use Rattle.slices.specs.Bytes.{from_little_endian}
use Rattle.cases.specs.declared.Case.{Case}

abbrev pub case_of : List ℕ → Case
case_of b =
    record {
      named = from_little_endian (part 0 4 b);
      ratio = from_little_endian (part 4 4 b);
      work = from_little_endian (part 8 4 b);
      ordinates = from_little_endian (part 12 4 b);
      records = from_little_endian (part 16 4 b);
      size = from_little_endian (part 20 4 b);
    }

pub case-of : (b : List ℕ) {named ratio work ordinates records size : ℕ} → named ≡ from_little_endian (part 0 4 b) → ratio ≡ from_little_endian (part 4 4 b)
    → work ≡ from_little_endian (part 8 4 b) → ordinates ≡ from_little_endian (part 12 4 b) → records ≡ from_little_endian (part 16 4 b) → size ≡ from_little_endian (part 20 4 b)
    → record { named = named; ratio = ratio; work = work; ordinates = ordinates; records = records; size = size } ≡ case_of b
case-of b d k w q r n = rw (d, k, w, q, r, n)
