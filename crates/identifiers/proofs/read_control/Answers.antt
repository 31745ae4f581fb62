-- Each way out is one law of the lines that have no record's identifier.
use Rattle.std.proofs.Common.{rules, arith, ◌≡◌, ◌∙◌, refl, sym, take}
use Rattle.std.proofs.lemmas.List.{length-take-le}
use Rattle.meaning.specs.Fields.{is_blank}
use Rattle.sequences.specs.Trimming.{trim_within}
use Rattle.identifiers.specs.Texts.{same_as}
use Rattle.identifiers.specs.Controls.{compared, blank-unread, free-unread, fix_unread, unknown_unread}
use Rattle.identifiers.proofs.read_control.Goals as goal

pub returns-then-all_blank : goal.returns-then-all_blank
returns-then-all_blank c = (blank-unread _ (sym c.all_blank.ensures ∙ c.if-all_blank.true), tt)

pub slice_bounds-text-end : goal.slice_bounds-text-end
slice_bounds-text-end c =
    let l = c.args.l.now in
    sym (length-take-le c.text_end-end.result l (omega (arith, c.text_end-end.ensures, trim_within is_blank l)))

pub returns-then-eq : goal.returns-then-eq
returns-then-eq c =
    let e = c.text_end-end in
    let some = sym c.all_blank.ensures ∙ c.if-all_blank.false in
    let free = same_as (take e.result c.args.l.now) "*FREE" c.as_slice.result.now c.as_slice.ensures in
    (free-unread c.args.l.now e.result e.ensures some (free ∙ sym c.eq.ensures ∙ c.if-eq.true), tt)

pub returns-then-eq-2 : goal.returns-then-eq-2
returns-then-eq-2 c =
    let e = c.text_end-end in
    let text = take e.result c.args.l.now in
    let some = sym c.all_blank.ensures ∙ c.if-all_blank.false in
    let free = same_as text "*FREE" c.as_slice.result.now c.as_slice.ensures in
    let fix = same_as text "*FIX" c.as_slice-2.result.now c.as_slice-2.ensures in
    (fix_unread c.args.l.now e.result e.ensures some (free ∙ sym c.eq.ensures ∙ c.if-eq.false) (fix ∙ sym c.eq-2.ensures ∙ c.if-eq-2.true), tt)

pub returns : goal.returns
returns c =
    let e = c.text_end-end in
    let text = take e.result c.args.l.now in
    let some = sym c.all_blank.ensures ∙ c.if-all_blank.false in
    let free = same_as text "*FREE" c.as_slice.result.now c.as_slice.ensures in
    let fix = same_as text "*FIX" c.as_slice-2.result.now c.as_slice-2.ensures in
    (unknown_unread c.args.l.now e.result e.ensures some (free ∙ sym c.eq.ensures ∙ c.if-eq.false) (fix ∙ sym c.eq-2.ensures ∙ c.if-eq-2.false), tt)
