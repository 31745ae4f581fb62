-- How many bytes the text of a case takes at most.
use Rattle.std.specs.Prelude.{ℕ, ◌+◌, ◌*◌}
use Rattle.hexes.specs.Hex.{byte_size}

-- "REFUSED ", at most 20 digits, the line's end. The line of a move is shorter.
abbrev pub answer_size : ℕ
answer_size = 29

-- '--' and the line's end.
abbrev pub mark_size : ℕ
mark_size = 3

-- The lines of the answer and of the room, and the last one.
abbrev pub move_size : (room : ℕ) → ℕ
move_size room = answer_size + (byte_size * room + 1) + mark_size
