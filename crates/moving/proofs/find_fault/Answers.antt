-- What was noted, and what the records that are left are refused for, together are what the file is refused for.
use Rattle.std.proofs.Common.{ℕ, true, false, ◌≡◌, sym, ap, ◌∙◌, Option, Some, None}
use Rattle.std.specs.Option.{option_eq}
use Rattle.meaning.specs.Words.{first}
use Rattle.meaning.specs.Moving.{records_in}
use Rattle.forms.specs.declared.Fault.{Fault}
use Rattle.forms.specs.declared.Fault.TheVariants.{Length, Padding, Ratio, Room}
use Rattle.forms.specs.contracts.FaultPartialEq.TheImpl.{eq-value}
use Rattle.forms.specs.Fault.{fault_is}
use Rattle.moving.specs.Directions.{judged_stops, judged_goes, judged_ends, or_first}
use Rattle.moving.proofs.find_fault.Goals as goal

is_padding : (x : Option Fault) → option_eq eq-value.it x (Some Padding) ≡ true → fault_is x ≡ 2
is_padding None h = cc
is_padding (Some Length) h = cc
is_padding (Some Padding) h = cc
is_padding (Some Ratio) h = cc
is_padding (Some Room) h = cc

is_other : (x : Option Fault) → option_eq eq-value.it x (Some Padding) ≡ false → fault_is x ≡ 2 → ⊥
is_other None h e = cc
is_other (Some Length) h e = cc
is_other (Some Padding) h e = cc
is_other (Some Ratio) h e = cc
is_other (Some Room) h e = cc

pub returns-then-eq : goal.returns-then-eq
returns-then-eq g c =
    let d = g.met.D.Direction in
    let l = c.loop-record in
    let e = c.find_fault-fault in
    let two : fault_is e.result ≡ 2 = is_padding e.result (sym c.eq.ensures ∙ c.if-eq.true) in
    let at = rw c.SIZE.ensures at c.in-Some.ensures.cases in
    two ∙ sym (judged_stops d.judges g.D.Direction.SIZE d.is_way.some l.rest.now (fault_is l.found) at (sym e.ensures ∙ two)) ∙ l.invariant

pub loop-record-preserved : goal.loop-record-preserved
loop-record-preserved g c =
    let d = g.met.D.Direction in
    let l = c.loop-record in
    let e = c.find_fault-fault in
    let other = is_other e.result (sym c.eq.ensures ∙ c.if-eq.false) in
    let at = rw c.SIZE.ensures at c.in-Some.ensures.cases in
    let turn = judged_goes d.judges g.D.Direction.SIZE d.is_way.some l.rest.now (fault_is l.found) at (λ two. other (e.ensures ∙ two)) in
    let noted : fault_is c.or-found.result ≡ first (g.D.Direction.fault c.in-Some.record.now) (fault_is l.found) =
    ap fault_is c.or-found.ensures ∙ or_first e.result l.found ∙ ap (λ (n : ℕ). first n (fault_is l.found)) e.ensures in
    ap (first (g.D.Direction.faults (records_in g.D.Direction.SIZE c.in-Some.behind.now))) noted ∙ sym turn ∙ l.invariant

pub returns : goal.returns
returns g c =
    let d = g.met.D.Direction in
    let l = c.loop-record in
    let short = rw c.SIZE.ensures at c.in_default.ensures.cases in
    sym (judged_ends d.judges g.D.Direction.SIZE d.is_way.some l.rest.now (fault_is l.found) short) ∙ l.invariant
