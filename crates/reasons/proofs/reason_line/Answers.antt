-- The first line: there is none; it is fair, and its head tells; or it meets refusal 3.
use Rattle.std.proofs.Common.{rules, arith, ◌≡◌, ◌<◌, [], sym, subst, List, ℕ, length}
use Rattle.std.proofs.lemmas.List.{length-take-le}
use Rattle.fields.specs.Spans.{form_of}
use Rattle.lines.specs.First.{fair-line, unfair-line}
use Rattle.text.specs.Written.{Written, written_none}
use Rattle.reasons.specs.FirstLine.{FirstLine, first_line, no_line, fair_reason, foreign-reason}
use Rattle.reasons.proofs.reason_line.Goals as goal

-- nothing is written
nothing : (text out : List ℕ) → text ≡ [] → Written out 0 text out 0
nothing text out e = rw e (written_none out 0)

pub returns-then-is_empty-clause-told : goal.returns-then-is_empty-clause-told
returns-then-is_empty-clause-told c =
    let x = c.args in
    nothing _ x.out.now (no_line x.six (form_of x.free) x.s.now (search rules))

pub slice_bounds-write_line-end : goal.slice_bounds-write_line-end
slice_bounds-write_line-end c =
    let f = first_line (fair-line c.args.s.now 0 c.line_at.result (search rules) c.line_at.ensures c.in-Ok.line c.in-Ok.is) in
    sym (length-take-le _ _ f.within)

pub write_line-requires : goal.write_line-requires
write_line-requires c =
    let f = first_line (fair-line c.args.s.now 0 c.line_at.result (search rules) c.line_at.ensures c.in-Ok.line c.in-Ok.is) in
    (f.sound, f.short, c.requires)

pub returns-in-Ok-clause-told : goal.returns-in-Ok-clause-told
returns-in-Ok-clause-told c =
    let x = c.args in
    let f = first_line (fair-line x.s.now 0 c.line_at.result (search rules) c.line_at.ensures c.in-Ok.line c.in-Ok.is) in
    subst (λ (t : List ℕ). Written x.out.now 0 t c.write_line.new.out c.write_line.result) (sym (fair_reason x.six (form_of x.free) f)) c.write_line.ensures

pub returns-in-Err-clause-told : goal.returns-in-Err-clause-told
returns-in-Err-clause-told c =
    let x = c.args in
    let foreign = unfair-line x.s.now 0 c.line_at.result (search rules) c.line_at.ensures c.in-Err.field-0 c.in-Err.is in
    nothing _ x.out.now (foreign-reason x.six (form_of x.free) foreign)
