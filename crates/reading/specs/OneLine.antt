-- What one line comes to.
--     FieldsRead     its fields scanned
--     Goes           it is refused, or the reading goes on behind it
--     Does           or it is an event, before which the reading stood as it did
--     NextIs         the line that begins at a place, and where the next one begins
use Rattle.std.specs.Prelude.{ℕ, ◌≤◌, ◌<◌, ◌≡◌, true, List, ◌∷◌, length, drop, Option, None, Some, Result, Ok, Err}
use Rattle.meaning.specs.Lines.{lines_of}
use Rattle.meaning.specs.Fields.{Form, fields_of}
use Rattle.meaning.specs.Records.{Item, any_faulty}
use Rattle.meaning.specs.Run as run
use Rattle.meaning.specs.Run.{Refuse, Go, Open, End, read_line}
use Rattle.refusals.specs.declared.Refusal.{Refusal}
use Rattle.refusals.specs.declared.Refusal.TheVariants.{Malformed}
use Rattle.refusals.specs.Numbers.{refusal_number}
use Rattle.records.specs.Rows.{field_row, rules_by}
use Rattle.blocks.specs.Meant.{name_is}
use Rattle.scanning.specs.declared.Scan.{Scan}
use Rattle.scanning.specs.Scans.{scanned_of}
use Rattle.scanning.specs.WholeLine.{LineRead, value_fields_in}
use Rattle.placing.specs.declared.Reading.{Reading}
use Rattle.placing.specs.Readings.{reading_is, time_in, opened_in, Ready}
use Rattle.reading.specs.declared.Event.{Event}
use Rattle.reading.specs.declared.Event.TheVariants.{Refused, Opened, Ended, Missing}

-- What the scan kept is that of the line's fields; or one is a fault.
abbrev pub FieldsRead : Item → Form → (l values : List ℕ) → Result Scan Refusal → Type 0
FieldsRead item form l values (Ok scan) = LineRead (field_row item) (fields_of form l) (scanned_of values scan)
FieldsRead item form l values (Err refusal) = (any_faulty (rules_by item) 0 (value_fields_in (field_row item) (fields_of form l)) ≡ true) × (refusal ≡ Malformed)

abbrev pub Goes : {T : Type 0} → run.Event → Reading → List ℕ → Result T Refusal → Type 0
Goes e r w (Ok x) = (e ≡ Go (reading_is r w)) × Ready r w
Goes e r w (Err refusal) = e ≡ Refuse (refusal_number refusal)

-- r and w before the line, r' and w' behind it
abbrev pub Met : run.Event → (r : Reading) (w : List ℕ) (r' : Reading) (w' : List ℕ) → Event → Type 0
Met e r w r' w' (Refused refusal) = ⊥
Met e r w r' w' (Opened name) = (e ≡ Open (opened_in (reading_is r w) (name_is name))) × (name.letters ≤ 6) × (r' ≡ r) × (w' ≡ w)
Met e r w r' w' Ended = (e ≡ End (time_in (reading_is r w))) × (r' ≡ r) × (w' ≡ w)
Met e r w r' w' Missing = ⊥

abbrev pub Does : run.Event → (r : Reading) (w : List ℕ) (r' : Reading) (w' : List ℕ) → Result (Option Event) Refusal → Type 0
Does e r w r' w' (Ok None) = (e ≡ Go (reading_is r' w')) × Ready r' w'
Does e r w r' w' (Ok (Some event)) = Met e r w r' w' event
Does e r w r' w' (Err refusal) = e ≡ Refuse (refusal_number refusal)

-- a line that is refused may be foreign, and then it is not told where the next one begins
abbrev pub Behind : List ℕ → (at at' : ℕ) → List (List ℕ) → Result (Option Event) Refusal → Type 0
Behind s at at' rest (Ok x) = (at < at') × (at' ≤ length s) × (rest ≡ lines_of (drop at' s))
Behind s at at' rest (Err refusal) = Unit

pub record NextIs (s : List ℕ) (at : ℕ) (r : Reading) (w : List ℕ) (at' : ℕ) (r' : Reading) (w' : List ℕ) (x : Result (Option Event) Refusal) : Type 0 where
  pub line : List ℕ
  pub rest : List (List ℕ)
  pub lines : lines_of (drop at s) ≡ line ∷ rest
  pub does : Does (read_line (reading_is r w) line) r w r' w' x
  pub behind : Behind s at at' rest x
