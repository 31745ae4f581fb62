-- The name stands where the span says; a sound one is short enough to be copied.
use Rattle.std.proofs.Common.{rules, ◌≡◌, ◌∙◌, sym, ap, refl, arith}
use Rattle.meaning.specs.Records.{bad_name}
use Rattle.fields.specs.Spans.{form_of}
use Rattle.fields.specs.NameLaws.{NameAt, name-found}
use Rattle.placing.specs.Labels.{name_short}
use Rattle.placing.proofs.names.read_name.Goals as goal

pub slice_bounds-f-count : goal.slice_bounds-f-count
slice_bounds-f-count c =
    let n = name-found (form_of c.args.free) c.args.l.now c.requires c.name_span-span.result c.name_span-span.ensures in
    omega arith

pub slice_bounds-f-start : goal.slice_bounds-f-start
slice_bounds-f-start c =
    let n = name-found (form_of c.args.free) c.args.l.now c.requires c.name_span-span.result c.name_span-span.ensures in
    omega arith

pub slice_bounds-f-end : goal.slice_bounds-f-end
slice_bounds-f-end c =
    let n = name-found (form_of c.args.free) c.args.l.now c.requires c.name_span-span.result c.name_span-span.ensures in
    omega arith

pub returns-then-bad_name : goal.returns-then-bad_name
returns-then-bad_name c =
    let n = name-found (form_of c.args.free) c.args.l.now c.requires c.name_span-span.result c.name_span-span.ensures in
    (sym (sym c.if-bad_name.true ∙ c.bad_name.ensures ∙ ap bad_name n.name), refl)

pub copy_name-requires : goal.copy_name-requires
copy_name-requires c = name_short _ (sym c.bad_name.ensures ∙ c.if-bad_name.false)

pub returns : goal.returns
returns c =
    let n = name-found (form_of c.args.free) c.args.l.now c.requires c.name_span-span.result c.name_span-span.ensures in
    (sym (sym c.if-bad_name.false ∙ c.bad_name.ensures ∙ ap bad_name n.name), c.copy_name.ensures.0 ∙ n.name, c.copy_name.ensures.1)
