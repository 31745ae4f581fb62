-- What is told of a move, as its meaning has it: the bytes moved, or the number of a refusal, which may be any.
--     told_move, told_outcome    the answer, and what comes back
--     told_once                  an answer is told by what it means
--     numbered, told_as_moved    with the number of its fault for the fault, what a move answered means the same
use Rattle.std.specs.Prelude.{ℕ, ◌≡◌, refl, List, Result, Ok, Err}
use Rattle.meaning.specs.Moving as meaning
use Rattle.meaning.specs.Moving.{Outcome}
use Rattle.forms.specs.declared.Fault.{Fault}
use Rattle.forms.specs.Fault.{number_of}
use Rattle.moving.specs.Answers.{move_is}

abbrev pub told_move : Result ℕ ℕ → meaning.Move
told_move (Ok count) = meaning.Moved count
told_move (Err number) = meaning.Unmoved number

pub told_once : (x y : Result ℕ ℕ) → told_move x ≡ told_move y → x ≡ y
told_once (Ok n) (Ok m) h = cc
told_once (Ok n) (Err m) h = cc
told_once (Err n) (Ok m) h = cc
told_once (Err n) (Err m) h = cc

abbrev pub told_outcome : Result ℕ ℕ → (room : List ℕ) → Outcome
told_outcome m room = record { answer = told_move m; room = room }

abbrev pub numbered : Result ℕ Fault → Result ℕ ℕ
numbered (Ok count) = Ok count
numbered (Err fault) = Err (number_of fault)

pub told_as_moved : (m : Result ℕ Fault) → told_move (numbered m) ≡ move_is m
told_as_moved (Ok count) = refl
told_as_moved (Err fault) = refl
