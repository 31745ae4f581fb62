-- What a line comes to is the next turn: it carries the reading on, is an event or is refused; past the last line none is left. Of a line's fields each is the first
-- of those left: a fault is one of the line's, and else the scan goes on behind it; where none is left the line is read.
use Rattle.std.specs.Prelude.{ℕ, ◌+◌, ◌-◌, ◌≤◌, ◌<◌, ◌≡◌, false, List, [], length, drop, Option, None, Some, Result, Ok, Err}
use Rattle.std.proofs.Common.{refl, sym, ap, ◌∙◌, zero-le, arith, drop_of_length-le}
use Rattle.sequences.specs.Parts.{part, length_part}
use Rattle.meaning.specs.Lines.{lines_of}
use Rattle.meaning.specs.Fields.{Form, fields_of}
use Rattle.meaning.specs.Records.{Item, any_field, any_faulty}
use Rattle.meaning.specs.Run as run
use Rattle.meaning.specs.Run.{Refuse, Open, read_line}
use Rattle.events.specs.NextEvent.{Found, Met, next_event}
use Rattle.refusals.specs.declared.Refusal.{Refusal}
use Rattle.refusals.specs.declared.Refusal.TheVariants.{Malformed}
use Rattle.refusals.specs.Numbers.{refusal_number}
use Rattle.lines.specs.declared.Line.{Line}
use Rattle.lines.specs.Line.{line_at}
use Rattle.lines.specs.First.{FairAt, fair-line, unfair-line}
use Rattle.fields.specs.Spans.{form_of, first_place, Stands}
use Rattle.fields.specs.Turns.{first_stands}
use Rattle.records.specs.Rows.{field_row, rules_by, span_in, span_few}
use Rattle.scanning.specs.declared.Scan.{Scan}
use Rattle.scanning.specs.Pass.{scan_from}
use Rattle.scanning.specs.Scans.{scanned_of}
use Rattle.scanning.specs.WholeLine.{Fresh}
use Rattle.scanning.specs.FieldsLeft.{left_by, span_turn, left_fields, left_none, left_few, left_less, left_near}
use Rattle.blocks.specs.Meant.{time_is}
use Rattle.placing.specs.declared.Reading.{Reading}
use Rattle.placing.specs.Readings.{reading_is, opened_in}
use Rattle.placing.specs.Places.{due_time}
use Rattle.sorting.specs.Sorted.{with_free}
use Rattle.reading.specs.declared.Event.{Event}
use Rattle.reading.specs.declared.Event.TheVariants.{Opened, Ended}
use Rattle.reading.specs.OneLine.{FieldsRead, Does, NextIs}
use Rattle.reading.specs.AtLine.{refuses, goes_on, event_met, foreign-found, fair_behind, none_found, pass-read, pass_fault, fault_event, ready_form, name_bad, name_good, fault_here, fault_later, scan_later}
use Rattle.reading.proofs.read_on.Goals as goal

-- A LINE THAT PASSED 3
fair : (s : List ℕ) (at : ℕ) (line : Line) → at < length s → Ok line ≡ line_at s at → FairAt s at line.end line.next
fair s at line inside e = fair-line s at (Ok line) inside e line refl

short : {s : List ℕ} {at end next : ℕ} → FairAt s at end next → length (part at (end - at) s) ≤ 80
short {s} {at} {end} f =
    let n : at + (end - at) ≤ length s = omega (arith, f.begins, f.ends) in
    omega (arith, f.short, length_part at (end - at) s n)

-- what it comes to is the next turn
turn : {s : List ℕ} {at end next : ℕ} → FairAt s at end next → (r : Reading) (w : List ℕ) (r' : Reading) (w' : List ℕ) (x : Result (Option Event) Refusal)
    → Does (read_line (reading_is r w) (part at (end - at) s)) r w r' w' x → NextIs s at r w next r' w' x
turn {s} {at} {end} {next} f r w r' w' x does =
    record { line = part at (end - at) s; rest = lines_of (drop next s); lines = f.lines; does = does; behind = fair_behind f x }

-- it is refused
refused : {s : List ℕ} {at end next : ℕ} → FairAt s at end next → (r : Reading) (w : List ℕ) (n : ℕ) (found : Found)
    → next_event (lines_of (drop at s)) (reading_is r w) (n + 1) ≡ found → (refusal : Refusal)
    → read_line (reading_is r w) (part at (end - at) s) ≡ Refuse (refusal_number refusal)
    → (q : run.Reading) × (later : List (List ℕ)) × (found ≡ Met (Refuse (refusal_number refusal)) q (n + 1) later)
refused f r w n found so_far refusal e =
    let t = turn f r w r w (Err refusal) e in
    (_, _, refuses t n found so_far (refusal_number refusal) t.does)

-- ITS FIELDS
-- few are noted
few : (item named : ℕ) → named ≡ span_in (field_row item) 0 → named ≤ 10
few item named e = rw e (span_few item 0 zero-le)

-- none is left: the line is read
read : (item : Item) (form : Form) (l : List ℕ) (named : ℕ) → named ≡ span_in (field_row item) 0 → (before : List ℕ) → length before ≡ 10
    → (i c : ℕ) (values : List ℕ) (scan : Scan) → Stands form l i c → left_by (length l) c i named ≡ false
    → any_faulty (rules_by item) i (left_fields form (span_in (field_row item) 0) i c l) ≡ any_faulty (rules_by item) 0 (left_fields form (span_in (field_row item) 0) 0 (first_place form l) l)
    → scan_from (rules_by item) i (left_fields form (span_in (field_row item) 0) i c l) (scanned_of values scan)
    ≡ scan_from (rules_by item) 0 (left_fields form (span_in (field_row item) 0) 0 (first_place form l) l) (scanned_of before (record { count = 0; outside = false }))
    → FieldsRead item form l values (Ok scan)
unfolding any_field scan_from
read item form l named spans before ten i c values scan stands over faults scans =
    let none = left_none form (span_in (field_row item) 0) l i c stands (rw spans at over) in
    let all = left_fields form (span_in (field_row item) 0) 0 (first_place form l) l in
    let start = scanned_of before (record { count = 0; outside = false }) in
    let sound : false ≡ any_faulty (rules_by item) 0 all = rw none at faults in
    let kept : scanned_of values scan ≡ scan_from (rules_by item) 0 all start = rw none at scans in
    let fresh : Fresh start = record { none = refl; inside = refl; ten = ten } in
    rw kept (pass-read item form l start fresh (sym sound))

pub slice_bounds-l-count : goal.slice_bounds-l-count
slice_bounds-l-count c =
    let f = fair c.args.s.now c.line.at c.in-Ok.found c.line-test.true c.in-Ok.ensures in
    f.begins

pub slice_bounds-l-start : goal.slice_bounds-l-start
slice_bounds-l-start c =
    let f = fair c.args.s.now c.line.at c.in-Ok.found c.line-test.true c.in-Ok.ensures in
    omega (arith, f.begins, f.ends)

pub slice_bounds-l-end : goal.slice_bounds-l-end
slice_bounds-l-end c =
    let f = fair c.args.s.now c.line.at c.in-Ok.found c.line-test.true c.in-Ok.ensures in
    omega (arith, f.begins, f.ends)

pub sort_line-requires : goal.sort_line-requires
sort_line-requires c =
    let f = fair c.args.s.now c.line.at c.in-Ok.found c.line-test.true c.in-Ok.ensures in
    (f.sound, c.line.invariant.ready.readable)

pub line-smaller-in-Ok-Passed : goal.line-smaller-in-Ok-Passed
line-smaller-in-Ok-Passed c =
    let f = fair c.args.s.now c.line.at c.in-Ok.found c.line-test.true c.in-Ok.ensures in
    omega (arith, f.goes_on, f.within)

pub line-preserved-in-Ok-Passed : goal.line-preserved-in-Ok-Passed
line-preserved-in-Ok-Passed c =
    let l = c.line in
    let v = l.invariant in
    let f = fair c.args.s.now l.at c.in-Ok.found c.line-test.true c.in-Ok.ensures in
    let free = c.in-Ok-Passed.free in
    let sorted = rw c.in-Ok-Passed.field-0-is at c.in-Ok-Passed.ensures in
    let t = turn f l.reading l.cards (with_free l.reading free) l.cards (Ok None) (sorted.event, ready_form free v.ready) in
    record {
      up = f.within;
      forth = omega (arith, v.forth, f.goes_on);
      counted = omega (arith, v.counted, f.goes_on);
      waiting = v.waiting;
      ten = v.ten;
      ready = t.does.1;
      done = goes_on t l.line _ v.done;
    }

pub read_name-requires : goal.read_name-requires
read_name-requires c = short (fair c.args.s.now c.line.at c.in-Ok.found c.line-test.true c.in-Ok.ensures)

pub loop-l-init : goal.loop-l-init
loop-l-init c =
    let l = c.line in
    let v = l.invariant in
    let text = part l.at (c.in-Ok.found.end - l.at) c.args.s.now in
    rw c.first_place-c.ensures
    (record { waiting = v.waiting; ten = v.ten; stands = first_stands (form_of l.reading.free) text; near = zero-le; faults = refl; scans = refl })

pub next_span-span-requires : goal.next_span-span-requires
next_span-span-requires c =
    let l = c.loop-l in
    let v = l.invariant in
    let f = fair c.args.s.now c.line.at c.in-Ok.found c.line-test.true c.in-Ok.ensures in
    let text = part c.line.at (c.in-Ok.found.end - c.line.at) c.args.s.now in
    let more = sym c.is_left.ensures ∙ c.loop-l-test.true in
    let small = left_few (length text) l.c l.i c.named_fields-named.result (short f) v.near (few _ _ c.named_fields-named.ensures) more in
    (omega (arith, small), short f, v.stands)

pub slice_bounds-note_field-count : goal.slice_bounds-note_field-count
slice_bounds-note_field-count c =
    let l = c.loop-l in
    let f = fair c.args.s.now c.line.at c.in-Ok.found c.line-test.true c.in-Ok.ensures in
    let text = part c.line.at (c.in-Ok.found.end - c.line.at) c.args.s.now in
    let st = span_turn (form_of c.line.reading.free) text l.i l.c c.next_span-span.result (short f) l.invariant.stands c.next_span-span.ensures in
    st.begins

pub slice_bounds-note_field-start : goal.slice_bounds-note_field-start
slice_bounds-note_field-start c =
    let l = c.loop-l in
    let f = fair c.args.s.now c.line.at c.in-Ok.found c.line-test.true c.in-Ok.ensures in
    let text = part c.line.at (c.in-Ok.found.end - c.line.at) c.args.s.now in
    let st = span_turn (form_of c.line.reading.free) text l.i l.c c.next_span-span.result (short f) l.invariant.stands c.next_span-span.ensures in
    omega (arith, st.begins, st.ends)

pub slice_bounds-note_field-end-in-loop-l : goal.slice_bounds-note_field-end-in-loop-l
slice_bounds-note_field-end-in-loop-l c =
    let l = c.loop-l in
    let f = fair c.args.s.now c.line.at c.in-Ok.found c.line-test.true c.in-Ok.ensures in
    let text = part c.line.at (c.in-Ok.found.end - c.line.at) c.args.s.now in
    let st = span_turn (form_of c.line.reading.free) text l.i l.c c.next_span-span.result (short f) l.invariant.stands c.next_span-span.ensures in
    omega (arith, st.begins, st.ends)

pub note_field-requires : goal.note_field-requires
note_field-requires c =
    let l = c.loop-l in
    let v = l.invariant in
    let f = fair c.args.s.now c.line.at c.in-Ok.found c.line-test.true c.in-Ok.ensures in
    let text = part c.line.at (c.in-Ok.found.end - c.line.at) c.args.s.now in
    let more = sym c.is_left.ensures ∙ c.loop-l-test.true in
    let small = left_few (length text) l.c l.i c.named_fields-named.result (short f) v.near (few _ _ c.named_fields-named.ensures) more in
    (omega (arith, small), v.ten)

pub overflow_add-i : goal.overflow_add-i
overflow_add-i c =
    let l = c.loop-l in
    let v = l.invariant in
    let f = fair c.args.s.now c.line.at c.in-Ok.found c.line-test.true c.in-Ok.ensures in
    let text = part c.line.at (c.in-Ok.found.end - c.line.at) c.args.s.now in
    let more = sym c.is_left.ensures ∙ c.loop-l-test.true in
    let small = left_few (length text) l.c l.i c.named_fields-named.result (short f) v.near (few _ _ c.named_fields-named.ensures) more in
    omega (arith, small)

pub loop-l-smaller : goal.loop-l-smaller
loop-l-smaller c =
    let l = c.loop-l in
    let f = fair c.args.s.now c.line.at c.in-Ok.found c.line-test.true c.in-Ok.ensures in
    let text = part c.line.at (c.in-Ok.found.end - c.line.at) c.args.s.now in
    let more = sym c.is_left.ensures ∙ c.loop-l-test.true in
    let st = span_turn (form_of c.line.reading.free) text l.i l.c c.next_span-span.result (short f) l.invariant.stands c.next_span-span.ensures in
    left_less (length text) l.c l.i c.named_fields-named.result c.next_span-span.result.next more st.forth st.past

pub loop-l-preserved : goal.loop-l-preserved
loop-l-preserved c =
    let l = c.loop-l in
    let v = l.invariant in
    let item = c.in-Ok-Fields.item in
    let f = fair c.args.s.now c.line.at c.in-Ok.found c.line-test.true c.in-Ok.ensures in
    let text = part c.line.at (c.in-Ok.found.end - c.line.at) c.args.s.now in
    let more = sym c.is_left.ensures ∙ c.loop-l-test.true in
    let st = span_turn (form_of c.line.reading.free) text l.i l.c c.next_span-span.result (short f) v.stands c.next_span-span.ensures in
    let fs = st.fields (span_in (field_row item) 0) (rw c.named_fields-named.ensures at more) in
    let noted = c.in-Ok-note_field.ensures in
    record {
      waiting = v.waiting;
      ten = c.note_field.auto.values ∙ v.ten;
      stands = st.stands;
      near = left_near (length text) l.c l.i c.named_fields-named.result c.next_span-span.result.next v.near (few _ _ c.named_fields-named.ensures) more st.forth;
      faults = fault_later (rules_by item) l.i _ _ _ noted.0 (rw fs at v.faults);
      scans = scan_later (rules_by item) l.i _ _ [] _ _ _ noted.1 (rw fs at v.scans);
    }

pub take_item-requires-clause-passed : goal.take_item-requires-clause-passed
take_item-requires-clause-passed c =
    let l = c.loop-l in
    let v = l.invariant in
    let o = c.line in
    let item = c.in-Ok-Fields.item in
    let form = form_of o.reading.free in
    let text = part o.at (c.in-Ok.found.end - o.at) c.args.s.now in
    let over = sym c.is_left.ensures ∙ c.loop-l-test.false in
    let done = read item form text _ c.named_fields-named.ensures o.values o.invariant.ten l.i l.c l.values l.scan v.stands over v.faults v.scans in
    record { fields = fields_of form text; read = done }

pub line-smaller-in-Ok-take_item : goal.line-smaller-in-Ok-take_item
line-smaller-in-Ok-take_item c =
    let f = fair c.args.s.now c.line.at c.in-Ok.found c.line-test.true c.in-Ok.ensures in
    omega (arith, f.goes_on, f.within)

pub line-preserved-in-Ok-take_item : goal.line-preserved-in-Ok-take_item
line-preserved-in-Ok-take_item c =
    let l = c.loop-l in
    let v = l.invariant in
    let o = c.line in
    let item = c.in-Ok-Fields.item in
    let form = form_of o.reading.free in
    let text = part o.at (c.in-Ok.found.end - o.at) c.args.s.now in
    let over = sym c.is_left.ensures ∙ c.loop-l-test.false in
    let done = read item form text _ c.named_fields-named.ensures o.values o.invariant.ten l.i l.c l.values l.scan v.stands over v.faults v.scans in
    let f = fair c.args.s.now o.at c.in-Ok.found c.line-test.true c.in-Ok.ensures in
    let sorted = rw c.in-Ok-Fields.field-0-is at c.in-Ok-Fields.ensures in
    let taken = c.in-Ok-take_item.ensures in
    let t = turn f o.reading o.cards o.reading c.take_item.new.cards (Ok None) (sorted.event ∙ sym (taken.event _ done), taken.ready) in
    record {
      up = f.within;
      forth = omega (arith, o.invariant.forth, f.goes_on);
      counted = omega (arith, o.invariant.counted, f.goes_on);
      waiting = v.waiting;
      ten = v.ten;
      ready = t.does.1;
      done = goes_on t o.line _ o.invariant.done;
    }

pub take_control-requires : goal.take_control-requires
take_control-requires c =
    let l = c.loop-l in
    let v = l.invariant in
    let o = c.line in
    let item = c.in-Ok-Fields.item in
    let form = form_of o.reading.free in
    let text = part o.at (c.in-Ok.found.end - o.at) c.args.s.now in
    let over = sym c.is_left.ensures ∙ c.loop-l-test.false in
    let done = read item form text _ c.named_fields-named.ensures o.values o.invariant.ten l.i l.c l.values l.scan v.stands over v.faults v.scans in
    let sorted = rw c.in-Ok-Fields.field-0-is at c.in-Ok-Fields.ensures in
    (due_time o.reading.phase (time_is o.reading.time) item o.cards sorted.onward c.if-item-lt-RECORDS.false, record { fields = fields_of form text; read = done })

pub line-smaller : goal.line-smaller
line-smaller c =
    let f = fair c.args.s.now c.line.at c.in-Ok.found c.line-test.true c.in-Ok.ensures in
    omega (arith, f.goes_on, f.within)

pub line-preserved : goal.line-preserved
line-preserved c =
    let l = c.loop-l in
    let v = l.invariant in
    let o = c.line in
    let item = c.in-Ok-Fields.item in
    let form = form_of o.reading.free in
    let text = part o.at (c.in-Ok.found.end - o.at) c.args.s.now in
    let over = sym c.is_left.ensures ∙ c.loop-l-test.false in
    let done = read item form text _ c.named_fields-named.ensures o.values o.invariant.ten l.i l.c l.values l.scan v.stands over v.faults v.scans in
    let f = fair c.args.s.now o.at c.in-Ok.found c.line-test.true c.in-Ok.ensures in
    let sorted = rw c.in-Ok-Fields.field-0-is at c.in-Ok-Fields.ensures in
    let taken = c.in-Ok-take_control.ensures o.cards o.invariant.ready in
    let t = turn f o.reading o.cards c.in-Ok-take_control.taken o.cards (Ok None) (sorted.event ∙ sym (taken.event _ done), taken.ready) in
    record {
      up = f.within;
      forth = omega (arith, o.invariant.forth, f.goes_on);
      counted = omega (arith, o.invariant.counted, f.goes_on);
      waiting = v.waiting;
      ten = v.ten;
      ready = t.does.1;
      done = goes_on t o.line _ o.invariant.done;
    }

pub returns-after-line : goal.returns-after-line
returns-after-line c =
    let l = c.line in
    let v = l.invariant in
    let over : length c.args.s.now ≤ l.at = omega arith in
    record { found = rw v.waiting (none_found c.args.s.now l.at l.line _ _ (drop_of_length-le c.args.s.now over) v.done); onward = rw v.waiting tt }

pub returns-in-Err : goal.returns-in-Err
returns-in-Err c =
    let l = c.line in
    let foreign = unfair-line c.args.s.now l.at _ c.line-test.true c.in-Err.ensures _ refl in
    record { found = foreign-found c.args.s.now l.at l.line _ _ foreign l.invariant.done; onward = tt }

pub returns-in-Err-sort_line : goal.returns-in-Err-sort_line
returns-in-Err-sort_line c =
    let l = c.line in
    let f = fair c.args.s.now l.at c.in-Ok.found c.line-test.true c.in-Ok.ensures in
    record { found = refused f l.reading l.cards l.line _ l.invariant.done c.in-Err-sort_line.refusal c.in-Err-sort_line.ensures.event; onward = tt }

pub returns-in-Err-read_name : goal.returns-in-Err-read_name
returns-in-Err-read_name c =
    let l = c.line in
    let f = fair c.args.s.now l.at c.in-Ok.found c.line-test.true c.in-Ok.ensures in
    let sorted = rw c.in-Ok-Named.field-0-is at c.in-Ok-Named.ensures in
    let h = c.in-Err-read_name.ensures in
    rw h.1
    (record { found = refused f l.reading l.cards l.line _ l.invariant.done Malformed (sorted.event ∙ name_bad (reading_is l.reading l.cards) _ h.0); onward = tt })

pub returns-in-Ok-read_name : goal.returns-in-Ok-read_name
returns-in-Ok-read_name c =
    let l = c.line in
    let v = l.invariant in
    let f = fair c.args.s.now l.at c.in-Ok.found c.line-test.true c.in-Ok.ensures in
    let sorted = rw c.in-Ok-Named.field-0-is at c.in-Ok-Named.ensures in
    let h = c.in-Ok-read_name.ensures in
    let q = reading_is l.reading l.cards in
    let event = Opened c.in-Ok-read_name.name in
    let opened = sorted.event ∙ name_good q _ h.0 ∙ ap (λ (name : List ℕ). Open (opened_in q name)) (sym h.1) in
    let t = turn f l.reading l.cards l.reading l.cards (Ok (Some event)) (opened, h.2, refl, refl) in
    event_met event t c.args.from c.args.before l.line _ v.done v.ready v.forth v.counted

pub returns-in-Ok-Last : goal.returns-in-Ok-Last
returns-in-Ok-Last c =
    let l = c.line in
    let v = l.invariant in
    let f = fair c.args.s.now l.at c.in-Ok.found c.line-test.true c.in-Ok.ensures in
    let sorted = rw c.in-Ok-Last.field-0-is at c.in-Ok-Last.ensures in
    let t = turn f l.reading l.cards l.reading l.cards (Ok (Some Ended)) (sorted.event, refl, refl) in
    event_met Ended t c.args.from c.args.before l.line _ v.done v.ready v.forth v.counted

pub returns-in-Err-note_field : goal.returns-in-Err-note_field
returns-in-Err-note_field c =
    let l = c.loop-l in
    let item = c.in-Ok-Fields.item in
    let form = form_of c.line.reading.free in
    let f = fair c.args.s.now c.line.at c.in-Ok.found c.line-test.true c.in-Ok.ensures in
    let text = part c.line.at (c.in-Ok.found.end - c.line.at) c.args.s.now in
    let more = sym c.is_left.ensures ∙ c.loop-l-test.true in
    let st = span_turn (form_of c.line.reading.free) text l.i l.c c.next_span-span.result (short f) l.invariant.stands c.next_span-span.ensures in
    let fs = st.fields (span_in (field_row item) 0) (rw c.named_fields-named.ensures at more) in
    let h = c.in-Err-note_field.ensures in
    let bad = pass_fault item form text (fault_here (rules_by item) l.i _ _ _ h.0 (rw fs at l.invariant.faults)) in
    let sorted = rw c.in-Ok-Fields.field-0-is at c.in-Ok-Fields.ensures in
    let r = c.line.reading in
    rw h.1
    (record { found = refused f r c.line.cards c.line.line _ c.line.invariant.done Malformed (sorted.event ∙ fault_event item r c.line.cards (fields_of form text) sorted.onward bad); onward = tt })

pub returns-in-Err-take_item : goal.returns-in-Err-take_item
returns-in-Err-take_item c =
    let l = c.loop-l in
    let v = l.invariant in
    let o = c.line in
    let item = c.in-Ok-Fields.item in
    let form = form_of o.reading.free in
    let text = part o.at (c.in-Ok.found.end - o.at) c.args.s.now in
    let over = sym c.is_left.ensures ∙ c.loop-l-test.false in
    let done = read item form text _ c.named_fields-named.ensures o.values o.invariant.ten l.i l.c l.values l.scan v.stands over v.faults v.scans in
    let f = fair c.args.s.now o.at c.in-Ok.found c.line-test.true c.in-Ok.ensures in
    let sorted = rw c.in-Ok-Fields.field-0-is at c.in-Ok-Fields.ensures in
    let taken = c.in-Err-take_item.ensures in
    record { found = refused f o.reading o.cards o.line _ o.invariant.done c.in-Err-take_item.refusal (sorted.event ∙ sym (taken.event _ done)); onward = tt }

pub returns-in-Err-take_control : goal.returns-in-Err-take_control
returns-in-Err-take_control c =
    let l = c.loop-l in
    let v = l.invariant in
    let o = c.line in
    let item = c.in-Ok-Fields.item in
    let form = form_of o.reading.free in
    let text = part o.at (c.in-Ok.found.end - o.at) c.args.s.now in
    let over = sym c.is_left.ensures ∙ c.loop-l-test.false in
    let done = read item form text _ c.named_fields-named.ensures o.values o.invariant.ten l.i l.c l.values l.scan v.stands over v.faults v.scans in
    let f = fair c.args.s.now o.at c.in-Ok.found c.line-test.true c.in-Ok.ensures in
    let sorted = rw c.in-Ok-Fields.field-0-is at c.in-Ok-Fields.ensures in
    let taken = c.in-Err-take_control.ensures o.cards o.invariant.ready in
    record { found = refused f o.reading o.cards o.line _ o.invariant.done c.in-Err-take_control.refusal (sorted.event ∙ sym (taken.event _ done)); onward = tt }
