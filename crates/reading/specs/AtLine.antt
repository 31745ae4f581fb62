-- A turn of the loop over lines: what a line does carries the reading on, or is what was looked for.
--     goes, refuses, opens_block, ends_deck    the four things that a line can do
--     goes_on, event_met    and what reading on comes to by them
--     pass-read      a pass over its fields that met no fault
--     pass_fault     and one that met one
use Rattle.std.specs.Prelude.{ℕ, zero, suc, ◌+◌, ◌≤◌, ◌≡◌, refl, Bool, true, false, List, [], ◌∷◌, drop, Option, None, Some, Result, Ok, Err}
use Rattle.std.proofs.Math.Path.{sym}
use Rattle.std.proofs.Common.{ap, ◌∙◌, arith}
use Rattle.meaning.specs.Lines.{foreign, lines_of}
use Rattle.meaning.specs.Fields.{Form, fields_in, fields_of}
use Rattle.meaning.specs.Records as records
use Rattle.meaning.specs.Records.{Item, Row, rules_in, rules_of, time_rules, filled_up, value_fields, bad_name, rule_at, faulty_field, any_field, any_faulty}
use Rattle.meaning.specs.Blocks.{Time}
use Rattle.meaning.specs.Run as run
use Rattle.meaning.specs.Run.{Event, Refuse, Go, Open, End, unless, time_refusal, ratio_refusal, item_refusal, name_refusal, read_line}
use Rattle.events.specs.NextEvent.{Found, Missing, Met, met_by, next_event}
use Rattle.refusals.specs.declared.Refusal.{Refusal}
use Rattle.lines.specs.First.{FairAt, ForeignAt}
use Rattle.fields.specs.Spans.{form_of, first_place}
use Rattle.identifiers.specs.Passed.{foreign-head}
use Rattle.records.specs.Rows.{field_row, rules_by, ratio_scan, block_row, few_rules, span_in}
use Rattle.records.specs.Blanks.{blank-listed}
use Rattle.blocks.specs.Meant.{time_is, name_is}
use Rattle.blocks.specs.Cards.{block_of}
use Rattle.scanning.specs.Pass.{Scanned, noted, scan_from}
use Rattle.scanning.specs.FieldsLeft.{left_fields, left_first}
use Rattle.scanning.specs.WholeLine.{Fresh, LineRead, value_fields_in, fields_in_lem, line_faults, line_read}
use Rattle.placing.specs.declared.Phase.{Phase}
use Rattle.placing.specs.declared.Phase.TheVariants as phase
use Rattle.placing.specs.declared.Reading.{Reading}
use Rattle.placing.specs.Readings.{reading_by, reading_is, opened_in, Ready}
use Rattle.placing.specs.Places.{Due, fields_event, name_event}
use Rattle.taking.specs.Ratios.{ratio_faults}
use Rattle.sorting.specs.Sorted.{with_free}
use Rattle.reading.specs.declared.Event as coded
use Rattle.reading.specs.declared.Event.TheVariants as coded-event
use Rattle.reading.specs.Found.{Gets}
use Rattle.reading.specs.OneLine.{NextIs, Behind}

-- A line at `at`, behind n lines, where the reading on from there comes to f.
module _ {s : List ℕ} {at : ℕ} {r : Reading} {w : List ℕ} {at' : ℕ} {r' : Reading} {w' : List ℕ} {x : Result (Option coded.Event) Refusal} (t : NextIs s at r w at' r' w' x)
    (n : ℕ) (f : Found) (so_far : next_event (lines_of (drop at s)) (reading_is r w) (n + 1) ≡ f) where
  turned : met_by (read_line (reading_is r w) t.line) (reading_is r w) (n + 1) t.rest (λ (q : run.Reading). next_event t.rest q (n + 1 + 1)) ≡ f
  unfolding next_event
  turned = rw t.lines at so_far

  pub goes : (q : run.Reading) → read_line (reading_is r w) t.line ≡ Go q → next_event t.rest q (n + 1 + 1) ≡ f
  goes q e = rw e at turned

  pub refuses : (number : ℕ) → read_line (reading_is r w) t.line ≡ Refuse number → f ≡ Met (Refuse number) (reading_is r w) (n + 1) t.rest
  refuses number e = sym (rw e at turned)

  pub opens_block : (q : run.Reading) → read_line (reading_is r w) t.line ≡ Open q → f ≡ Met (Open q) (reading_is r w) (n + 1) t.rest
  opens_block q e = sym (rw e at turned)

  pub ends_deck : (τ : Time) → read_line (reading_is r w) t.line ≡ End τ → f ≡ Met (End τ) (reading_is r w) (n + 1) t.rest
  ends_deck τ e = sym (rw e at turned)

-- what it comes to: the reading goes on
pub goes_on : {s : List ℕ} {at : ℕ} {r : Reading} {w : List ℕ} {at' : ℕ} {r' : Reading} {w' : List ℕ} (t : NextIs s at r w at' r' w' (Ok None))
    (n : ℕ) (f : Found) → next_event (lines_of (drop at s)) (reading_is r w) (n + 1) ≡ f → next_event (lines_of (drop at' s)) (reading_is r' w') (n + 1 + 1) ≡ f
goes_on t n f so_far = rw t.behind.2 at (goes t n f so_far _ t.does.0)

-- an event is met
pub event_met : {s : List ℕ} {at : ℕ} {r : Reading} {w : List ℕ} {at' : ℕ} {r' : Reading} {w' : List ℕ} (event : coded.Event) (t : NextIs s at r w at' r' w' (Ok (Some event)))
    (from before n : ℕ) (start : run.Reading) → next_event (lines_of (drop at s)) (reading_is r w) (n + 1) ≡ next_event (lines_of (drop from s)) start (before + 1)
    → Ready r w → from ≤ at → n ≤ at → Gets s from before start (record { event = event; reading = r'; at = at'; line = n + 1 }) w'
event_met (coded-event.Refused refusal) t from before n start so_far ready forth counted = absurd t.does
event_met (coded-event.Opened name) t from before n start so_far ready forth counted =
    let d = t.does in
    let b = t.behind in
    record {
      found = rw (d.2, d.3, ← b.2) (opens_block t n _ so_far _ d.0);
      onward = (record { ready = rw (d.2, d.3) ready; within = b.1; forth = omega arith; counted = omega arith }, d.1);
    }
event_met coded-event.Ended t from before n start so_far ready forth counted =
    let d = t.does in
    let b = t.behind in
    record {
      found = rw (d.1, d.2, ← b.2) (ends_deck t n _ so_far _ d.0);
      onward = record { ready = rw (d.1, d.2) ready; within = b.1; forth = omega arith; counted = omega arith };
    }
event_met coded-event.Missing t from before n start so_far ready forth counted = absurd t.does

-- a foreign line
pub foreign_refused : (q : run.Reading) (l : List ℕ) → foreign l ≡ true → read_line q l ≡ Refuse 3
unfolding read_line
foreign_refused q l h = rw (foreign-head l h)

pub foreign-found : (s : List ℕ) (at n : ℕ) (q : run.Reading) (f : Found) → ForeignAt s at → next_event (lines_of (drop at s)) q (n + 1) ≡ f
    → (p : run.Reading) × (later : List (List ℕ)) × (f ≡ Met (Refuse 3) p (n + 1) later)
unfolding next_event read_line
foreign-found s at n q f a e = (q, a.rest, sym (rw (a.lines, foreign-head a.line a.met) at e))

-- and one that is not: where the next one begins
pub fair_behind : {s : List ℕ} {at end next : ℕ} → FairAt s at end next → (x : Result (Option coded.Event) Refusal) → Behind s at next (lines_of (drop next s)) x
fair_behind f (Ok x) = (f.goes_on, f.within, refl)
fair_behind f (Err refusal) = tt

-- past the last line
pub none_found : (s : List ℕ) (at n : ℕ) (q : run.Reading) (f : Found) → drop at s ≡ [] → next_event (lines_of (drop at s)) q (n + 1) ≡ f
    → (p : run.Reading) × (last : ℕ) × (f ≡ Missing p last)
unfolding next_event lines_of
none_found s at n q f z e = (q, n + 1, sym (rw z at e))

-- FIELDS
module _ (item : Item) (form : Form) (l : List ℕ) where
  abbrev left : List (List ℕ)
  left = left_fields form (span_in (field_row item) 0) 0 (first_place form l) l

  pub pass-read : (s : Scanned) → Fresh s → any_faulty (rules_by item) 0 left ≡ false → LineRead (field_row item) (fields_of form l) (scan_from (rules_by item) 0 left s)
  unfolding fields_of
  pass-read s fresh sound =
      let h = left_first form (span_in (field_row item) 0) l in
      rw h.fields (line_read (field_row item) (few_rules item) (blank-listed item) (fields_in form l) h.blanks s fresh h.enough (rw h.fields at sound))

  pub pass_fault : any_faulty (rules_by item) 0 left ≡ true → any_faulty (rules_by item) 0 (value_fields_in (field_row item) (fields_of form l)) ≡ true
  pass_fault e =
      let h = left_first form (span_in (field_row item) 0) l in
      sym (line_faults (field_row item) (blank-listed item) (fields_of form l) h.blanks h.enough) ∙ sym (ap (any_faulty (rules_by item) 0) h.fields) ∙ e

-- refusal 6
fault_by : (p : Phase) (item : Item) (τ : Time) (form : Form) (name w : List ℕ) (fs : List (List ℕ)) → Due p τ item w → any_faulty (rules_by item) 0 (value_fields_in (field_row item) fs) ≡ true
    → fields_event item (reading_by p τ form (block_of name w)) fs ≡ Refuse 6
unfolding time_refusal ratio_refusal item_refusal
fault_by phase.BeforeTime item τ form name w fs due e =
    let e' : any_faulty time_rules 0 (filled_up time_rules fs) ≡ true = rw due at e in
    rw e'
fault_by phase.BeforeBlocks item τ form name w fs due e =
    let e' : any_faulty ratio_scan 0 (filled_up ratio_scan fs) ≡ true = rw due.0 at e in
    rw (due.1, ratio_faults fs ∙ e')
fault_by phase.InBlock item τ form name w fs due e =
    let e' : any_faulty (rules_of item) 0 (value_fields item fs) ≡ true =
    ap (any_faulty (rules_of item) 0) (fields_in_lem item fs) ∙ ap (λ (row : Row). any_faulty (rules_in row) 0 (value_fields_in row fs)) (sym (block_row item due.0)) ∙ e in
    rw (due.1 name, e')

pub fault_event : (item : Item) (r : Reading) (w : List ℕ) (fs : List (List ℕ)) → Due r.phase (time_is r.time) item w → any_faulty (rules_by item) 0 (value_fields_in (field_row item) fs) ≡ true
    → fields_event item (reading_is r w) fs ≡ Refuse 6
fault_event item r w fs due e = fault_by r.phase item (time_is r.time) (form_of r.free) (name_is r.name) w fs due e

-- THE READING IN ANOTHER FORM
pub ready_form : {r : Reading} {w : List ℕ} (free : Bool) → Ready r w → Ready (with_free r free) w
ready_form free k = record { few_ordinates = k.few_ordinates; few-ratios = k.few-ratios; short-name = k.short-name; readable = k.readable; counted = k.counted }

-- NAMES
pub name_bad : (q : run.Reading) (name : List ℕ) → bad_name name ≡ true → name_event q name ≡ Refuse 6
unfolding name_refusal
name_bad q name e = rw e

pub name_good : (q : run.Reading) (name : List ℕ) → bad_name name ≡ false → name_event q name ≡ Open (opened_in q name)
unfolding name_refusal
name_good q name e = rw e

-- a refusal that is met
pub unless-met : (n : ℕ) (e : Event) → (n ≡ 0 → ⊥) → unless n e ≡ Refuse n
unless-met zero e h = absurd (h refl)
unless-met (suc n) e h = refl

pub unless_none : (n : ℕ) (e : Event) → n ≡ 0 → unless n e ≡ e
unless_none n e z = rw z

-- ONE FIELD NOTED
module _ (rules : List records.Rule) (i : ℕ) (f : List ℕ) (later all : List (List ℕ)) where
  pub fault_here : faulty_field (rule_at rules i) f ≡ true → any_faulty rules i (f ∷ later) ≡ any_faulty rules 0 all → any_faulty rules 0 all ≡ true
  unfolding any_field
  fault_here e h = sym h ∙ rw e

  pub fault_later : faulty_field (rule_at rules i) f ≡ false → any_faulty rules i (f ∷ later) ≡ any_faulty rules 0 all → any_faulty rules (i + 1) later ≡ any_faulty rules 0 all
  unfolding any_field
  fault_later e h = rw e at h

  pub scan_later : (s s' t : Scanned) → s' ≡ noted rules i f s → scan_from rules i (f ∷ later) s ≡ t → scan_from rules (i + 1) later s' ≡ t
  unfolding scan_from
  scan_later s s' t e h = rw e h
