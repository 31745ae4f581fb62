-- Where a name stands.
use Rattle.std.specs.Prelude.{ℕ, List, length}
use Rattle.meaning.specs.Words.{◌≤?◌, when◌then◌else◌}
use Rattle.meaning.specs.Fields.{Form}
use Rattle.fields.specs.declared.Span.{Span}
use Rattle.fields.specs.Spans.{span_of, first_place, span_at}

unfoldable pub name_from : Form → List ℕ → ℕ → Span
name_from form l c = when length l ≤? c then span_of 0 0 c else span_at form l 0 c

abbrev pub name_span : Form → List ℕ → Span
name_span form l = name_from form l (first_place form l)
