-- What reading on comes to: the event, where the reading stood before its line, and where the next line begins.
use Rattle.std.specs.Prelude.{ℕ, ◌+◌, ◌≤◌, ◌<◌, ◌≡◌, List, length, drop}
use Rattle.meaning.specs.Lines.{lines_of}
use Rattle.meaning.specs.Run as run
use Rattle.meaning.specs.Run.{Refuse, Open, End}
use Rattle.events.specs.NextEvent.{Found, Missing, Met, next_event}
use Rattle.refusals.specs.Numbers.{refusal_number}
use Rattle.blocks.specs.Meant.{name_is}
use Rattle.placing.specs.Readings.{time_in, opened_in, reading_is, Ready}
use Rattle.reading.specs.declared.Event.{Event}
use Rattle.reading.specs.declared.Event.TheVariants as event
use Rattle.reading.specs.declared.Got.{Got}

-- What is found, by the event. Where a line is refused or missing, nothing more is asked.
abbrev pub FoundIs : Event → run.Reading → (line : ℕ) → (rest : List (List ℕ)) → Found → Type 0
FoundIs (event.Refused refusal) r line rest f = (q : run.Reading) × (later : List (List ℕ)) × (f ≡ Met (Refuse (refusal_number refusal)) q line later)
FoundIs (event.Opened name) r line rest f = f ≡ Met (Open (opened_in r (name_is name))) r line rest
FoundIs event.Ended r line rest f = f ≡ Met (End (time_in r)) r line rest
FoundIs event.Missing r line rest f = (q : run.Reading) × (last : ℕ) × (f ≡ Missing q last)

-- Where a block is opened or the deck ended, the reading may go on.
pub record Onward (s : List ℕ) (from : ℕ) (r : Got) (w : List ℕ) : Type 0 where
  pub ready : Ready r.reading w
  pub within : r.at ≤ length s
  pub forth : from < r.at
  pub counted : r.line ≤ r.at

abbrev pub OnwardBy : Event → Type 0 → Type 0
OnwardBy (event.Refused refusal) onward = Unit
OnwardBy (event.Opened name) onward = onward × (name.letters ≤ 6)
OnwardBy event.Ended onward = onward
OnwardBy event.Missing onward = Unit

pub record Gets (s : List ℕ) (from before : ℕ) (start : run.Reading) (r : Got) (w : List ℕ) : Type 0 where
  pub found : FoundIs r.event (reading_is r.reading w) r.line (lines_of (drop r.at s)) (next_event (lines_of (drop from s)) start (before + 1))
  pub onward : OnwardBy r.event (Onward s from r w)

-- What an outcome says of the deck: the refusal and its line; or where the reading stood, the line and the lines behind it, with the name of a block that is opened.
pub data Told : Type 0 where
  Refusal : (number line : ℕ) → Told
  Opening : run.Reading → (name : List ℕ) → (line : ℕ) → (rest : List (List ℕ)) → Told
  Ending : run.Reading → (line : ℕ) → (rest : List (List ℕ)) → Told
  Nothing : Told

abbrev pub told_by : Event → run.Reading → (line : ℕ) → (rest : List (List ℕ)) → Told
told_by (event.Refused refusal) r line rest = Refusal (refusal_number refusal) line
told_by (event.Opened name) r line rest = Opening r (name_is name) line rest
told_by event.Ended r line rest = Ending r line rest
told_by event.Missing r line rest = Nothing

abbrev pub told : List ℕ → Got → List ℕ → Told
told s r w = told_by r.event (reading_is r.reading w) r.line (lines_of (drop r.at s))
