-- What a line comes to, before its name or its fields are read, is what it does by the definitions.
--     sorted_event, SortedIs       what it does, and that it does so; known_as: known by its variant
--     skipped, unknown      by its head: nothing to read, unknown
--     passed, misplaced, with_name, last, with_fields      by its record's place; placed: by any
use Rattle.std.specs.Prelude.{ℕ, ◌≡◌, refl, Bool, false, List, Option, None, Some, Result, Ok, Err}
use Rattle.std.proofs.Common.{sym, ap, subst, ◌∙◌}
use Rattle.meaning.specs.Lines.{foreign}
use Rattle.meaning.specs.Fields.{Form, fields_of, name_in}
use Rattle.meaning.specs.Run.{Event, Refuse, Go, End, read_by, read_line}
use Rattle.fields.specs.Spans.{form_of}
use Rattle.refusals.specs.declared.Refusal.{Refusal}
use Rattle.refusals.specs.Numbers.{refusal_number}
use Rattle.identifiers.specs.declared.Record.{Record}
use Rattle.identifiers.specs.Heads.{record_is, head_is, plain_head}
use Rattle.identifiers.specs.Passed.{passed_head}
use Rattle.blocks.specs.Meant.{time_is}
use Rattle.placing.specs.declared.Phase.{Phase}
use Rattle.placing.specs.declared.Phase.TheVariants as phase
use Rattle.placing.specs.declared.Placed.{Placed}
use Rattle.placing.specs.declared.Placed.TheVariants.{Passed, Named, Last, Fields}
use Rattle.placing.specs.declared.Reading.{Reading}
use Rattle.placing.specs.Readings.{reading_by, reading_is, block_is, form_in, time_in, in_form}
use Rattle.placing.specs.Places.{Due, fields_event, name_event, placed_event, PlacedIs, MayRead}

-- the reading in another form
abbrev pub with_free : Reading → Bool → Reading
with_free r free = record { phase = r.phase; free = free; time = r.time; name = r.name }

abbrev pub sorted_event : Result Placed Refusal → Reading → List ℕ → List ℕ → Event
sorted_event (Err refusal) r w l = Refuse (refusal_number refusal)
sorted_event (Ok (Passed free)) r w l = Go (reading_is (with_free r free) w)
sorted_event (Ok Named) r w l = name_event (reading_is r w) (name_in (form_of r.free) l)
sorted_event (Ok Last) r w l = End (time_in (reading_is r w))
sorted_event (Ok (Fields item)) r w l = fields_event item (reading_is r w) (fields_of (form_of r.free) l)

-- fields are due where the reading stands
abbrev pub MayGoOn : Result Placed Refusal → Reading → List ℕ → Type 0
MayGoOn (Err refusal) r w = Unit
MayGoOn (Ok (Passed free)) r w = Unit
MayGoOn (Ok Named) r w = Unit
MayGoOn (Ok Last) r w = Unit
MayGoOn (Ok (Fields item)) r w = Due r.phase (time_is r.time) item w

pub record SortedIs (x : Result Placed Refusal) (r : Reading) (w l : List ℕ) : Type 0 where
  pub event : read_line (reading_is r w) l ≡ sorted_event x r w l
  pub onward : MayGoOn x r w

-- known by its variant
pub known_as : {x : Result Placed Refusal} {r : Reading} {w l : List ℕ} (y : Result Placed Refusal) → x ≡ y → SortedIs x r w l → SortedIs y r w l
known_as {x} {r} {w} {l} y e is = subst (λ (z : Result Placed Refusal). SortedIs z r w l) e is

in-form : (r : Reading) (free : Bool) (w : List ℕ) → reading_is (with_free r free) w ≡ in_form (form_of free) (reading_is r w)
in-form r free w = by r.phase
  where
    by : (p : Phase) → reading_by p (time_is r.time) (form_of free) (block_is r w) ≡ in_form (form_of free) (reading_by p (time_is r.time) (form_of r.free) (block_is r w))
    by phase.BeforeTime = refl
    by phase.BeforeBlocks = refl
    by phase.InBlock = refl

form_in_lem : (r : Reading) (w : List ℕ) → form_in (reading_is r w) ≡ form_of r.free
form_in_lem r w = by r.phase
  where
    by : (p : Phase) → form_in (reading_by p (time_is r.time) (form_of r.free) (block_is r w)) ≡ form_of r.free
    by phase.BeforeTime = refl
    by phase.BeforeBlocks = refl
    by phase.InBlock = refl

module _ (r : Reading) (w l : List ℕ) (plain : foreign l ≡ false) (h : Result (Option Record) Refusal) (is : head_is h ≡ plain_head l) where
  by_head : read_line (reading_is r w) l ≡ read_by (head_is h) (reading_is r w) l
  unfolding read_line
  by_head = rw (passed_head l plain, ← is)

  pub skipped : h ≡ Ok None → SortedIs (Ok (Passed r.free)) r w l
  skipped z = record { event = by_head ∙ rw z; onward = tt }

  pub unknown : (refusal : Refusal) → h ≡ Err refusal → SortedIs (Err refusal) r w l
  unknown refusal z = record { event = by_head ∙ rw z; onward = tt }

  -- a record, and what it does where the reading stands
  module _ (k : Record) (holds : h ≡ Ok (Some k)) (p : Result Placed Refusal) (places : PlacedIs p (reading_is r w) (record_is k)) where
    placed_so : read_line (reading_is r w) l ≡ placed_event p (reading_is r w) l
    placed_so = by_head ∙ rw holds (places l)

    pub misplaced : (refusal : Refusal) → p ≡ Err refusal → SortedIs (Err refusal) r w l
    misplaced refusal z = record { event = rw z at placed_so; onward = tt }

    pub passed : (free : Bool) → p ≡ Ok (Passed free) → SortedIs (Ok (Passed free)) r w l
    passed free z = let e = rw z at placed_so in record { event = e ∙ ap Go (sym (in-form r free w)); onward = tt }

    pub last : p ≡ Ok Last → SortedIs (Ok Last) r w l
    last z = record { event = rw z at placed_so; onward = tt }

    pub with_fields : (item : ℕ) → p ≡ Ok (Fields item) → MayRead p r.phase (time_is r.time) w → SortedIs (Ok (Fields item)) r w l
    with_fields item z due =
        let e = rw z at placed_so in
        record { event = e ∙ ap (λ (form : Form). fields_event item (reading_is r w) (fields_of form l)) (form_in_lem r w); onward = rw z at due }

    pub with_name : p ≡ Ok Named → SortedIs (Ok Named) r w l
    with_name z = let e = rw z at placed_so in record { event = e ∙ ap (λ (form : Form). name_event (reading_is r w) (name_in form l)) (form_in_lem r w); onward = tt }

  pub placed : (k : Record) → h ≡ Ok (Some k) → (p : Result Placed Refusal) → PlacedIs p (reading_is r w) (record_is k) → MayRead p r.phase (time_is r.time) w → SortedIs p r w l
  placed k holds (Err refusal) places may = misplaced k holds (Err refusal) places refusal refl
  placed k holds (Ok (Passed free)) places may = passed k holds (Ok (Passed free)) places free refl
  placed k holds (Ok Named) places may = with_name k holds (Ok Named) places refl
  placed k holds (Ok Last) places may = last k holds (Ok Last) places refl
  placed k holds (Ok (Fields item)) places may = with_fields k holds (Ok (Fields item)) places item refl may
