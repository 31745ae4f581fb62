-- What a case says before its file, and where each number stands.
--     case-of     three numbers that stand there are the case
use Rattle.std.specs.Prelude.{ℕ, ◌≡◌, List}
use Rattle.sequences.specs.Parts.{part}
use Rattle.slices.specs.Bytes.{from_little_endian}
use Rattle.moves.specs.declared.Case.{Case}

abbrev pub move_case_of : List ℕ → Case
move_case_of b =
    record {
      direction = from_little_endian (part 0 4 b);
      room = from_little_endian (part 4 4 b);
      size = from_little_endian (part 8 4 b);
    }

pub case-of : (b : List ℕ) {direction room size : ℕ} → direction ≡ from_little_endian (part 0 4 b) → room ≡ from_little_endian (part 4 4 b) → size ≡ from_little_endian (part 8 4 b)
    → record { direction = direction; room = room; size = size } ≡ move_case_of b
case-of b d r n = rw (d, r, n)
