-- The name is field 1, where the line reaches it.
use borrow.Author.Rules.{rules}
use mathlib.Core.Path.{◌∙◌, ap}
use Rattle.fields.specs.Spans.{form_of}
use Rattle.fields.specs.Turns.{first_stands}
use Rattle.fields.specs.Names.{name_from}
use Rattle.fields.specs.NameLaws.{name_none, name_some}
use Rattle.fields.proofs.names.name_span.Goals as goal

pub returns-then-l-c : goal.returns-then-l-c
returns-then-l-c c =
    let a = c.args in
    name_none (form_of a.free) a.l.now c.first_place-c.result c.if-l-c.true ∙ ap (name_from (form_of a.free) a.l.now) c.first_place-c.ensures

pub span_at-requires : goal.span_at-requires
span_at-requires c =
    let a = c.args in
    (search rules, search rules, rw c.first_place-c.ensures (first_stands (form_of a.free) a.l.now))

pub returns : goal.returns
returns c =
    let a = c.args in
    c.span_at.ensures ∙ name_some (form_of a.free) a.l.now c.first_place-c.result c.if-l-c.false
    ∙ ap (name_from (form_of a.free) a.l.now) c.first_place-c.ensures
