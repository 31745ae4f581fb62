-- The word, and behind it the name where it stands on the line.
use Prim.Native.Nat.{ℕ, ◌-◌, ◌≤◌}
use mathlib.Core.Bool.{Bool}
use mathlib.Core.List.{List}
use native.Mathlib.Omega.{arith}
use lib.ListN.{length}
use Rattle.sequences.specs.Parts.{part, length_part}
use Rattle.fields.specs.declared.Span.{Span}
use Rattle.fields.specs.Spans.{form_of}
use Rattle.fields.specs.NameLaws.{NameAt, name-found}
use Rattle.text.specs.Written.{written_more}
use Rattle.reasons.proofs.write_name.Goals as goal

-- THE NAME on the line
long : (free : Bool) (l : List ℕ) (r : Span) → length l ≤ 80 → NameAt (form_of free) l r → length (part r.from (r.to - r.from) l) ≤ 80
long free l r short s = omega (arith, length_part r.from (r.to - r.from) l (omega (arith, s.begins, s.ends)), s.ends, short)

pub slice_bounds-write_text-count : goal.slice_bounds-write_text-count
slice_bounds-write_text-count c =
    let s = name-found (form_of c.args.free) c.args.l.now c.requires.0 c.name_span-span.result c.name_span-span.ensures in omega (arith, s.begins)

pub slice_bounds-write_text-start : goal.slice_bounds-write_text-start
slice_bounds-write_text-start c =
    let s = name-found (form_of c.args.free) c.args.l.now c.requires.0 c.name_span-span.result c.name_span-span.ensures in omega (arith, s.begins, s.ends)

pub slice_bounds-write_text-end-2 : goal.slice_bounds-write_text-end-2
slice_bounds-write_text-end-2 c =
    let s = name-found (form_of c.args.free) c.args.l.now c.requires.0 c.name_span-span.result c.name_span-span.ensures in omega (arith, s.begins, s.ends)

pub write_text-end-requires : goal.write_text-end-requires
write_text-end-requires c =
    let x = c.args in
    let r = c.name_span-span.result in
    let s = name-found (form_of x.free) x.l.now c.requires.0 r c.name_span-span.ensures in
    omega (arith, long x.free x.l.now r c.requires.0 s, c.requires.1, c.write_text-name.ensures.place)

pub write_byte-requires : goal.write_byte-requires
write_byte-requires c =
    let x = c.args in
    let r = c.name_span-span.result in
    let s = name-found (form_of x.free) x.l.now c.requires.0 r c.name_span-span.ensures in
    omega (arith, long x.free x.l.now r c.requires.0 s, c.requires.1, c.write_text-end.ensures.place, c.write_text-name.ensures.place)

pub returns : goal.returns
returns c =
    let x = c.args in
    let r = c.name_span-span.result in
    let s = name-found (form_of x.free) x.l.now c.requires.0 r c.name_span-span.ensures in
    let name = c.write_text-name in
    let end = c.write_text-end in
    let room = c.requires.1 in
    written_more (omega (arith, name.ensures.place, end.ensures.place, long x.free x.l.now r c.requires.0 s, room))
    (written_more (omega (arith, name.ensures.place, room)) name.ensures (rw s.name at end.ensures))
    c.write_byte.ensures
