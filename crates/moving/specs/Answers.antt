-- The answer as the meaning of a move has it, with what was lent.
--     move_is, outcome_is                the answer, and what comes back
--     move-told                        an answer is told by what it means
--     refused_in, moved_in               what comes back of a refusal, and of bytes that were moved, in a room of so many bytes
--     unless-refused, unless_moved     a move that is refused, and one that is not
use Rattle.std.specs.Prelude.{ℕ, zero, suc, ◌-◌, ◌≡◌, refl, List, ◌++◌, length, replicate, Result, Ok, Err}
use Rattle.std.proofs.Common.{ap}
use Rattle.meaning.specs.Moving as meaning
use Rattle.meaning.specs.Moving.{Outcome, moved_unless}
use Rattle.forms.specs.declared.Fault.{Fault}
use Rattle.forms.specs.Fault.{number_of, number-told}

abbrev pub move_is : Result ℕ Fault → meaning.Move
move_is (Ok count) = meaning.Moved count
move_is (Err fault) = meaning.Unmoved (number_of fault)

pub move-told : (x y : Result ℕ Fault) → move_is x ≡ move_is y → x ≡ y
move-told (Ok n) (Ok m) h = cc
move-told (Ok n) (Err m) h = cc
move-told (Err n) (Ok m) h = cc
move-told (Err n) (Err m) h = ap Err (number-told n m (cc h))

abbrev pub outcome_is : Result ℕ Fault → (room : List ℕ) → Outcome
outcome_is m room = record { answer = move_is m; room = room }

abbrev pub refused_in : (number : ℕ) → (room : ℕ) → Outcome
refused_in number room = record { answer = meaning.Unmoved number; room = replicate room 0 }

abbrev pub moved_in : (moved : List ℕ) → (room : ℕ) → Outcome
moved_in moved room = record { answer = meaning.Moved (length moved); room = moved ++ replicate (room - length moved) 0 }

pub unless-refused : (number : ℕ) (moved : List ℕ) (room : ℕ) → (number ≡ 0 → ⊥) → moved_unless number moved room ≡ refused_in number room
unless-refused zero moved room some = absurd (some refl)
unless-refused (suc number) moved room some = refl

pub unless_moved : (number : ℕ) (moved : List ℕ) (room : ℕ) → number ≡ 0 → moved_unless number moved room ≡ moved_in moved room
unless_moved number moved room none = rw none
