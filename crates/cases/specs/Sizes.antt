-- How many bytes the text of a case takes at most.
use Rattle.std.specs.Prelude.{ℕ, ◌+◌, ◌*◌}
use Rattle.hexes.specs.Hex.{byte_size}

-- Three numbers of at most 20 digits, two blanks, the line's end. The line of a refusal is shorter.
abbrev pub answer_size : ℕ
answer_size = 63

-- A blank and at most 20 digits.
abbrev pub ordinate_size : ℕ
ordinate_size = 21

-- A count of at most 20 digits and '--', with their lines' ends.
abbrev pub left_size : ℕ
left_size = 24

-- The lines of the answer, of the ordinates and of the record bytes, and the last two.
abbrev pub case_size : (ordinates records : ℕ) → ℕ
case_size ordinates records = answer_size + (ordinate_size * ordinates + 1) + (byte_size * records + 1) + left_size
