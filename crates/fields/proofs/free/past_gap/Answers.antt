-- Each way out is one way through what separates two values.
use Rattle.std.proofs.Common.{rules, ◌≡◌, ◌+◌, ◌∙◌, refl, sym, ap, List, ℕ, eqb, ◌∷◌, []}
use Rattle.std.specs.List.{starts_with}
use borrow.Author.Tests.{eqb-true, eqb-false}
use Rattle.meaning.specs.Fields.{comma}
use Rattle.slices.specs.Stops.{begins_at}
use Rattle.fields.specs.Spans.{blanks_end, gap_from}
use Rattle.fields.specs.Free.{gap_comma, gap_other}
use Rattle.fields.proofs.free.past_gap.Goals as goal

pub returns-then-starts_with : goal.returns-then-starts_with
returns-then-starts_with c =
    let l = c.args.l.now in
    let i = c.past_blanks-i in
    let begins = c.starts_with.ensures.value ∙ ap (λ (s : List ℕ). starts_with eqb s (comma ∷ [])) c.rest_from.ensures ∙ begins_at comma refl l i.result in
    c.past_blanks.ensures ∙ gap_comma l i.result (eqb-true _ _ (sym begins ∙ c.if-starts_with.true)) ∙ ap (gap_from l) i.ensures

pub returns : goal.returns
returns c =
    let l = c.args.l.now in
    let i = c.past_blanks-i in
    let begins = c.starts_with.ensures.value ∙ ap (λ (s : List ℕ). starts_with eqb s (comma ∷ [])) c.rest_from.ensures ∙ begins_at comma refl l i.result in
    gap_other l i.result (eqb-false _ _ (sym begins ∙ c.if-starts_with.false)) ∙ ap (gap_from l) i.ensures
