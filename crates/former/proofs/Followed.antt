-- The outcome by the open reading is the definitions' own, as what a deck comes to is (specs/Followed.antt).
--     open_is        its outcome
use Rattle.std.specs.Prelude.{ℕ, ◌≡◌, List}
use Rattle.meaning.specs.Numbers.{number_of}
use Rattle.meaning.specs.Run.{Every, Lent, outcome}
use Rattle.former.specs.ByReader.{outcome_by}
use Rattle.former.specs.Followed.{open_worked}

pub open_is : (deck : List ℕ) (named ratio : ℕ) (lent : Lent) → outcome_by number_of deck named ratio lent ≡ outcome deck named ratio lent
unfolding outcome_by outcome
open_is deck named ratio lent = rw (open_worked Every deck)
