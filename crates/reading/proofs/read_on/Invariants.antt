-- Over the lines: reading on from here, behind the lines passed, comes to what reading on from the start comes to. Over a line's fields: those that are left, behind
-- those noted, have the faults that all of them have, and noting them gives what noting all of them gives.
use Rattle.std.specs.Prelude.{false, ◌≡◌, ◌≤◌, ◌+◌, ◌-◌, length, drop}
use Rattle.meaning.specs.Lines.{lines_of}
use Rattle.meaning.specs.Records.{any_faulty}
use Rattle.events.specs.NextEvent.{next_event}
use Rattle.fields.specs.Spans.{form_of, first_place, Stands}
use Rattle.records.specs.Rows.{field_row, rules_by, span_in}
use Rattle.scanning.specs.Pass.{scan_from}
use Rattle.scanning.specs.Scans.{scanned_of}
use Rattle.scanning.specs.FieldsLeft.{left_fields}
use Rattle.placing.specs.Readings.{reading_is, Ready}
use Rattle.reading.specs.declared.Event.TheVariants.{Missing}
use Rattle.reading.proofs.read_on.Given as goal

abbrev pub invariant-line : goal.invariant-line
invariant-line l =
    record {
      up : l.at ≤ length l.s;
      forth : l.from ≤ l.at;
      counted : l.line ≤ l.at;
      waiting : l.event ≡ Missing;
      ten : length l.values ≡ 10;
      ready : Ready l.reading l.cards;
      done : next_event (lines_of (drop l.at l.s)) (reading_is l.reading l.cards) (l.line + 1) ≡ next_event (lines_of (drop l.from l.s)) (reading_is l.fn.start l.fn.cards) (l.before + 1);
    }

abbrev pub decreases-line : goal.decreases-line
decreases-line l = length l.s - l.at

abbrev pub invariant-loop-l : goal.invariant-loop-l
invariant-loop-l l =
    let form = form_of l.free in
    let rules = rules_by l.item in
    let named = span_in (field_row l.item) 0 in
    let all = left_fields form named 0 (first_place form l.l) l.l in
    let left = left_fields form named l.i l.c l.l in
    record {
      waiting : l.event ≡ Missing;
      ten : length l.values ≡ 10;
      stands : Stands form l.l l.i l.c;
      near : l.i ≤ l.c + 10;
      faults : any_faulty rules l.i left ≡ any_faulty rules 0 all;
      scans : scan_from rules l.i left (scanned_of l.values l.scan) ≡ scan_from rules 0 all (scanned_of l.initial.values (record { count = 0; outside = false }));
    }

abbrev pub decreases-loop-l : goal.decreases-loop-l
decreases-loop-l l = (length l.l - l.c) + (l.named - l.i)
