-- What is printed of a case, from what a move leaves: a line for the answer, one for all bytes of the room, and one that is '--'.
--     a_move, a_refusal     two of them as they are printed
use Rattle.std.specs.Prelude.{ℕ, ◌≡◌, refl, List, [], ◌∷◌, ◌++◌}
use Rattle.meaning.specs.Words.{when◌then◌else◌, bytes}
use Rattle.meaning.specs.Listing.{whole}
use Rattle.meaning.specs.Moving.{Move, Moved, Unmoved, Outcome}
use Rattle.text.specs.Line.{line}
use Rattle.hexes.specs.Hex.{hex_all}

unfoldable pub move_line : Move → List ℕ
move_line (Moved count) = line (bytes "MOVED " ++ whole count)
move_line (Unmoved number) = line (bytes "REFUSED " ++ whole number)

unfoldable pub move_text : Outcome → List ℕ
move_text o = move_line o.answer ++ line (hex_all o.room) ++ line (bytes "--")

a_move : move_text (record { answer = Moved 40; room = 65 ∷ 0 ∷ 255 ∷ [] }) ≡ line (bytes "MOVED 40") ++ line (bytes "4100ff") ++ line (bytes "--")
unfolding move_text move_line whole when◌then◌else◌
a_move = refl

a_refusal : move_text (record { answer = Unmoved 4; room = 0 ∷ [] }) ≡ line (bytes "REFUSED 4") ++ line (bytes "00") ++ line (bytes "--")
unfolding move_text move_line whole when◌then◌else◌
a_refusal = refl
