-- The loop keeps that what it comes to is the count of the line's fields, trailing blank ones dropped: the place behind the last one that is not blank.
use Prim.Native.Nat.{ℕ, ◌+◌, ◌-◌, ◌≤◌}
use mathlib.Core.Path.{◌≡◌, sym, ◌∙◌}
use mathlib.Core.Bool.{Bool}
use mathlib.Core.List.{List}
use native.Mathlib.Omega.{arith}
use borrow.Author.Rules.{rules}
use lib.ListN.{length}
use Rattle.meaning.specs.Fields.{fields_of}
use Rattle.fields.specs.Spans.{form_of, Stands}
use Rattle.fields.specs.Turns.{Turn, turn, first_stands}
use Rattle.reasons.specs.Counts.{counted, count_first, count-end, count-filled, count-blank}
use Rattle.reasons.proofs.count_fields.Statement.{statement}
use Rattle.reasons.proofs.count_fields.Tie as tie

record Counting (free : Bool) (l : List ℕ) (c i count : ℕ) : Type 0 where
  stands : Stands (form_of free) l i c
  behind : i ≤ c
  few : i ≤ 80
  within : count ≤ i
  counts : counted (form_of free) l count i c ≡ length (fields_of (form_of free) l)

abbrev invariant-loop : tie.invariant-loop-c
invariant-loop free l c₀ i₀ count₀ c i count = Counting free l c i count

abbrev decreases-loop : tie.decreases-loop-c
decreases-loop free l c₀ i₀ count₀ c i count = length l - c

loop-holds : tie.Need-loop-c-init invariant-loop decreases-loop
loop-holds c =
    let x = c.args in
    let form = form_of x.free in
    record {
      stands = rw c.first_place-c.ensures (first_stands form x.l.now);
      behind = omega arith;
      few = omega arith;
      within = omega arith;
      counts = rw c.first_place-c.ensures (count_first form x.l.now);
    }

span-at-requires : tie.Need-span_at-span-requires invariant-loop decreases-loop
span-at-requires c κs = (omega arith, c.requires, c.loop-c.invariant.stands)

-- A FIELD FOUND
abbrev Found : Type 0
Found = tie.After-span_at-span invariant-loop decreases-loop

abbrev at : Found → tie.At-loop-c invariant-loop decreases-loop
at c = c.before.before

abbrev line : Found → List ℕ
line c = c.args.l.now

abbrev free : Found → Bool
free c = c.args.free

found : (c : Found) → Turn (form_of (free c)) (line c) (at c).loop-c.i (at c).loop-c.c c.span_at-span.result
found c =
    turn (form_of (free c)) (line c) (at c).loop-c.i (at c).loop-c.c c.span_at-span.result (omega arith) c.requires (at c).loop-c.invariant.stands c.span_at-span.ensures

add-i : tie.Need-overflow_add-i invariant-loop decreases-loop
add-i c = omega (arith, (at c).loop-c.invariant.few)

loop-less : tie.Need-loop-c-smaller-then-span invariant-loop decreases-loop
loop-less c = let t = found c.before.before in omega (arith, t.forth)

loop-less-2 : tie.Need-loop-c-smaller invariant-loop decreases-loop
loop-less-2 c = let t = found c.before.before in omega (arith, t.forth)

-- behind it, with the count that the field leaves
counting : (c : Found) (count : ℕ) → count ≤ (at c).loop-c.i + 1
    → counted (form_of (free c)) (line c) count ((at c).loop-c.i + 1) c.span_at-span.result.next ≡ counted (form_of (free c)) (line c) (at c).loop-c.count (at c).loop-c.i (at c).loop-c.c
    → Counting (free c) (line c) c.span_at-span.result.next ((at c).loop-c.i + 1) count
counting c count few same =
    let t = found c in
    let v = (at c).loop-c.invariant in
    let short : length (line c) ≤ 80 = c.requires in
    record {
      stands = t.stands;
      behind = omega (arith, t.forth, v.behind);
      few = omega (arith, v.behind, short);
      within = few;
      counts = same ∙ v.counts;
    }

loop-again : tie.Need-loop-c-preserved-then-span invariant-loop decreases-loop
loop-again c =
    let f = c.before.before in
    let l = (at f).loop-c in
    counting f (l.i + 1) (omega arith) (count-filled (form_of (free f)) (line f) l.count l.i l.c f.span_at-span.result (found f) c.if-span.true)

loop-again-2 : tie.Need-loop-c-preserved invariant-loop decreases-loop
loop-again-2 c =
    let f = c.before.before in
    let l = (at f).loop-c in
    counting f l.count (omega (arith, l.invariant.within)) (count-blank (form_of (free f)) (line f) l.count l.i l.c f.span_at-span.result (found f) c.if-span.false)

returns : tie.Need-returns invariant-loop decreases-loop
returns c =
    let x = c.args in
    let l = c.loop-c in
    (sym (count-end (form_of x.free) x.l.now l.count l.i l.c (omega arith) l.invariant.stands) ∙ l.invariant.counts, omega (arith, l.invariant.few, l.invariant.within))

pub count_fields_spec : {M : Type 1} → statement M
count_fields_spec =
    tie.close
    (tie.spec
    invariant-loop decreases-loop (λ c κs. search rules) loop-holds span-at-requires add-i loop-less loop-again loop-less-2 loop-again-2 returns)
