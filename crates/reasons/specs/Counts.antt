-- How many fields a line has, as the loop over them counts: the place behind the last that is not blank.
--     counted                      the count that the loop comes to, from a field on
--     count_first, count-end       at the first field, and where none is left
--     count-filled, count-blank    a turn past a field that is not blank, and past a blank one
use Rattle.std.specs.Prelude.{ℕ, ◌+◌, ◌-◌, ◌≤◌, ◌<◌, ◌≡◌, refl, Bool, length}
use Rattle.std.proofs.Common.{sym, ◌∙◌, arith}
use Rattle.std.proofs.Math.Path.{ap}
use Rattle.std.proofs.Math.Bool.{true, false}
use mathlib.Core.List.{List, [], ◌∷◌}
use Rattle.sequences.specs.Parts.{part, length_part}
use Rattle.meaning.specs.Words.{when◌then◌else◌, empty}
use Rattle.meaning.specs.Fields.{Form, trim_end, fields_of}
use Rattle.fields.specs.declared.Span.{Span}
use Rattle.fields.specs.Spans.{Stands, first_place, fields_from}
use Rattle.fields.specs.Turns.{Turn, first_fields, fields_done}
use Rattle.scanning.specs.Pass.{count_behind, count-step, count-start}

is-filled : (f : List ℕ) → 0 < length f → empty f ≡ false
is-filled [] h = absurd (omega arith)
is-filled (b ∷ f) h = refl

is_empty : (f : List ℕ) → length f ≡ 0 → empty f ≡ true
is_empty [] h = refl
is_empty (b ∷ f) h = absurd (omega arith)

module _ (form : Form) (l : List ℕ) where
  abbrev pub counted : (count i c : ℕ) → ℕ
  counted count i c = count_behind count i (trim_end empty (fields_from form i c l))

  pub count_first : counted 0 0 (first_place form l) ≡ length (fields_of form l)
  count_first = count-start (trim_end empty (fields_from form 0 (first_place form l) l)) ∙ ap length (first_fields form l)

  pub count-end : (count i c : ℕ) → length l ≤ c → Stands form l i c → counted count i c ≡ count
  unfolding trim_end
  count-end count i c over stands = rw (fields_done form l i c over stands)

  module _ (count i c : ℕ) (r : Span) (t : Turn form l i c r) where
    abbrev field : List ℕ
    field = part r.from (r.to - r.from) l

    long : length field ≡ r.to - r.from
    long = length_part r.from (r.to - r.from) l (omega (arith, t.begins, t.ends))

    abbrev later : List (List ℕ)
    later = trim_end empty (fields_from form (i + 1) r.next l)

    past : (b : Bool) → empty field ≡ b → count_behind (when b then count else i + 1) (i + 1) later ≡ counted count i c
    unfolding trim_end
    past b is =
        ap (λ (b : Bool). count_behind (when b then count else i + 1) (i + 1) later) (sym is) ∙ count-step count i field later
        ∙ ap (λ (gs : List (List ℕ)). count_behind count i (trim_end empty gs)) (sym t.fields)

    pub count-filled : r.from < r.to → counted (i + 1) (i + 1) r.next ≡ counted count i c
    unfolding when◌then◌else◌
    count-filled some = past false (is-filled field (omega (arith, long)))

    pub count-blank : r.to ≤ r.from → counted count (i + 1) r.next ≡ counted count i c
    unfolding when◌then◌else◌
    count-blank none = past true (is_empty field (omega (arith, long)))
