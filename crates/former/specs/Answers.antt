-- What a deck came to by the reader as it was, and its outcome. That its answer is the same now: proofs/Answers.antt.
use Rattle.std.specs.Prelude.{ℕ, List}
use Rattle.meaning.specs.Run.{Which, Worked, Lent, Outcome}
use Rattle.former.specs.Reader.{former_number}
use Rattle.former.specs.ByReader.{worked_under_by, outcome_by}

abbrev pub former_worked : Which → List ℕ → Worked
former_worked = worked_under_by former_number

abbrev pub former_outcome : List ℕ → (named ratio : ℕ) → Lent → Outcome
former_outcome = outcome_by former_number
