-- Each way out is one way through the definition's tests, at the place where `plain_end` stopped.
use Rattle.std.proofs.Common.{rules, arith, ◌≡◌, ◌≤◌, ◌<◌, ◌∙◌, sym, ap, ℕ, true, false, length, get_or}
use borrow.Author.Tests.{eqb-true, eqb-false}
use Rattle.sequences.specs.Runs.{run_at_within}
use Rattle.sequences.specs.Choices.{both_hold}
use Rattle.lines.specs.Line.{is_plain, line_from}
use Rattle.lines.specs.Endings.{too_long, at_deck-end, at_lf, at_cr-lf, at_foreign, rest_lf, rest_cr-lf}
use Rattle.lines.proofs.line_at.Goals as goal

pub returns-then-end-at-gt80 : goal.returns-then-end-at-gt80
returns-then-end-at-gt80 c =
    let e = c.plain_end-end in
    too_long c.args.s.now c.args.at e.result c.if-end-at-gt80.true ∙ ap (line_from c.args.s.now c.args.at) e.ensures

pub returns-then-end-s : goal.returns-then-end-s
returns-then-end-s c =
    let e = c.plain_end-end in
    at_deck-end c.args.s.now c.args.at e.result c.if-end-at-gt80.false (search rules) ∙ ap (line_from c.args.s.now c.args.at) e.ensures

pub slice_bounds-rest-count : goal.slice_bounds-rest-count
slice_bounds-rest-count c = omega (arith, run_at_within is_plain c.args.s.now c.args.at (omega arith), c.plain_end-end.ensures)

pub slice_bounds-rest-start : goal.slice_bounds-rest-start
slice_bounds-rest-start c = omega (arith, run_at_within is_plain c.args.s.now c.args.at (omega arith), c.plain_end-end.ensures)

pub returns-then-starts_with : goal.returns-then-starts_with
returns-then-starts_with c =
    let s = c.args.s.now in
    let e = c.plain_end-end in
    let more : e.result < length s = omega (arith, run_at_within is_plain s c.args.at (omega arith), e.ensures) in
    let lf = eqb-true _ _ (sym (rest_lf s e.result) ∙ sym c.starts_with.ensures.value ∙ c.if-starts_with.true) in
    at_lf s c.args.at e.result c.if-end-at-gt80.false more lf ∙ ap (line_from s c.args.at) e.ensures

pub returns-then-starts_with-2 : goal.returns-then-starts_with-2
returns-then-starts_with-2 c =
    let s = c.args.s.now in
    let e = c.plain_end-end in
    let more : e.result < length s = omega (arith, run_at_within is_plain s c.args.at (omega arith), e.ensures) in
    let no_lf = eqb-false _ _ (sym (rest_lf s e.result) ∙ sym c.starts_with.ensures.value ∙ c.if-starts_with.false) in
    let both = both_hold _ _ (sym (rest_cr-lf s e.result) ∙ sym c.starts_with-2.ensures.value ∙ c.if-starts_with-2.true) in
    at_cr-lf s c.args.at e.result c.if-end-at-gt80.false more no_lf (eqb-true _ _ both.0) (eqb-true _ _ both.1) ∙ ap (line_from s c.args.at) e.ensures

pub returns : goal.returns
returns c =
    let s = c.args.s.now in
    let e = c.plain_end-end in
    let more : e.result < length s = omega (arith, run_at_within is_plain s c.args.at (omega arith), e.ensures) in
    let no_lf = eqb-false _ _ (sym (rest_lf s e.result) ∙ sym c.starts_with.ensures.value ∙ c.if-starts_with.false) in
    let foreign = sym (rest_cr-lf s e.result) ∙ sym c.starts_with-2.ensures.value ∙ c.if-starts_with-2.false in
    at_foreign s c.args.at e.result c.if-end-at-gt80.false more no_lf foreign ∙ ap (line_from s c.args.at) e.ensures
