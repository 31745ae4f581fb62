-- The fields of a line that a pass has still to note: those from its place on, and blank ones up to as many as the record names.
--     left_fields       these fields
--     span_turn        one field noted takes the first of them off
--     left_none        none are left
--     left_first       at the start they are the line's fields with blank ones behind
use Rattle.std.specs.Prelude.{ℕ, suc, ◌+◌, ◌-◌, ◌*◌, ◌≤◌, ◌<◌, ◌≡◌, refl, Bool, true, false, List, [], ◌∷◌, ◌++◌, length, replicate}
use Rattle.std.proofs.Common.{sym, ap, ◌∙◌, true≢false, ⊎_elim, append_assoc, arith, lt-ltb, le-ltb, ltb-true, ltb-false, length-append}
use Rattle.std.proofs.lemmas.List.{length-replicate, replicate-append-replicate}
use Rattle.sequences.specs.Choices.{below_or_not}
use Rattle.sequences.specs.Parts.{part}
use Rattle.meaning.specs.Words.{◌<?◌, when◌then◌else◌}
use Rattle.meaning.specs.Fields.{Form, Fixed, Free, fields_of}
use Rattle.fields.specs.declared.Span.{Span}
use Rattle.fields.specs.Spans.{Stands, first_place, span_at, fields_from}
use Rattle.fields.specs.Fixed.{start_bounds, start-next}
use Rattle.fields.specs.Turns.{turn, first_fields, fields_done}
use Rattle.records.specs.Blanks.{fields_split}

abbrev pub blanks_for : ℕ → ℕ → List (List ℕ) → List (List ℕ)
blanks_for named i fs = fs ++ replicate (named - (i + length fs)) []

abbrev pub left_fields : Form → ℕ → ℕ → ℕ → List ℕ → List (List ℕ)
left_fields form named i c l = blanks_for named i (fields_from form i c l)

abbrev pub left_by : (length c i named : ℕ) → Bool
left_by length c i named = when c <? length then true else (i <? named)

-- a field past the line's end
abbrev pub blank_span : Form → ℕ → ℕ → Span
blank_span Free i c = record { from = 0; to = 0; next = c }
blank_span Fixed i c = record { from = 0; to = 0; next = 8 * i + 8 }

-- field i, looked for at c
abbrev pub next_span : Form → List ℕ → ℕ → ℕ → Span
next_span form l i c = when c <? length l then span_at form l i c else blank_span form i c

-- One field noted: it is the first of those left, and the pass goes on behind it.
pub record SpanTurn (form : Form) (l : List ℕ) (i c : ℕ) (r : Span) : Type 0 where
  pub begins : r.from ≤ r.to
  pub ends : r.to ≤ length l
  pub forth : c < length l → c < r.next
  pub past : length l ≤ c → length l ≤ r.next
  pub stands : Stands form l (i + 1) r.next
  pub fields : (named : ℕ) → left_by (length l) c i named ≡ true
      → left_fields form named i c l ≡ part r.from (r.to - r.from) l ∷ left_fields form named (i + 1) r.next l

-- a field of the line
field_turn : (form : Form) (l : List ℕ) (i c : ℕ) (r : Span) → c < length l → length l ≤ 80 → Stands form l i c → r ≡ span_at form l i c → SpanTurn form l i c r
field_turn form l i c r h short s e =
    let t = turn form l i c r h short s e in
    record {
      begins = t.begins;
      ends = t.ends;
      forth = λ z. t.forth;
      past = λ z. absurd (omega arith);
      stands = t.stands;
      fields =
          λ named z.
          (let n : named - (i + suc (length (fields_from form (i + 1) r.next l))) ≡ named - (i + 1 + length (fields_from form (i + 1) r.next l)) = omega arith in
          rw (t.fields, n));
    }

-- a blank one behind it
blank_stands : (form : Form) (l : List ℕ) (i c : ℕ) → length l ≤ c → Stands form l i c → Stands form l (i + 1) (blank_span form i c).next
blank_stands Free l i c h s = λ k. absurd (omega arith)
blank_stands Fixed l i c h s = sym (start-next i)

blank_past : (form : Form) (l : List ℕ) (i c : ℕ) → length l ≤ c → Stands form l i c → length l ≤ (blank_span form i c).next
blank_past Free l i c h s = h
blank_past Fixed l i c h s = omega (arith, start_bounds i, s)

blank-begins : (form : Form) (i c : ℕ) → ((blank_span form i c).from ≡ 0) × ((blank_span form i c).to ≡ 0)
blank-begins Free i c = (refl, refl)
blank-begins Fixed i c = (refl, refl)

not_inside : (n c i named : ℕ) → n ≤ c → left_by n c i named ≡ true → i < named
unfolding when◌then◌else◌
not_inside n c i named h e = ltb-true i named (rw (le-ltb c n h) at e)

blank_turn : (form : Form) (l : List ℕ) (i c : ℕ) (r : Span) → length l ≤ c → Stands form l i c → r ≡ blank_span form i c → SpanTurn form l i c r
blank_turn form l i c r h s e =
    let none = fields_done form l i c h s in
    let b = blank-begins form i c in
    let next : length l ≤ r.next = rw e (blank_past form l i c h s) in
    let stands : Stands form l (i + 1) r.next = rw e (blank_stands form l i c h s) in
    let later = fields_done form l (i + 1) r.next next stands in
    let from : r.from ≡ 0 = rw e b.0 in
    let to : r.to ≡ 0 = rw e b.1 in
    record {
      begins = omega arith;
      ends = omega arith;
      forth = λ z. absurd (omega arith);
      past = λ z. next;
      stands = stands;
      fields =
          λ named z.
          (let some = not_inside (length l) c i named h z in
          let n : named - (i + 0) ≡ suc (named - (i + 1 + 0)) = omega arith in
          let zero-part : r.to - r.from ≡ 0 = omega arith in
          rw (none, later, n, zero-part));
    }

pub span_turn : (form : Form) (l : List ℕ) (i c : ℕ) (r : Span) → length l ≤ 80 → Stands form l i c → r ≡ next_span form l i c → SpanTurn form l i c r
unfolding when◌then◌else◌
span_turn form l i c r short s e =
    ⊎_elim
    (λ (h : c < length l). field_turn form l i c r h short s (rw (lt-ltb c (length l) h) at e))
    (λ (h : length l ≤ c). blank_turn form l i c r h s (rw (le-ltb c (length l) h) at e))
    (below_or_not c (length l))

-- none are left
pub left_none : (form : Form) (named : ℕ) (l : List ℕ) (i c : ℕ) → Stands form l i c → left_by (length l) c i named ≡ false → left_fields form named i c l ≡ []
unfolding when◌then◌else◌
left_none form named l i c s e =
    ⊎_elim
    (λ (h : c < length l). absurd (true≢false (rw (lt-ltb c (length l) h) at e)))
    (λ (h : length l ≤ c).
    let none = fields_done form l i c h s in
    let few : named ≤ i = omega (arith, ltb-false i named (rw (le-ltb c (length l) h) at e)) in
    let n : named - (i + 0) ≡ 0 = omega arith in
    rw (none, n))
    (below_or_not c (length l))

-- at the start they are the line's fields, with blank ones behind, and as many as are named at least
pub record Starts (form : Form) (named : ℕ) (l : List ℕ) : Type 0 where
  pub blanks : ℕ
  pub fields : left_fields form named 0 (first_place form l) l ≡ fields_of form l ++ replicate blanks []
  pub enough : named ≤ length (fields_of form l) + blanks

pub left_first : (form : Form) (named : ℕ) (l : List ℕ) → Starts form named l
left_first form named l =
    let raw = fields_from form 0 (first_place form l) l in
    let h = fields_split raw in
    let e = first_fields form l in
    let m = named - (0 + length raw) in
    let split : raw ≡ fields_of form l ++ replicate h.0 [] = rw e at h.1 in
    let long : length raw ≡ length (fields_of form l) + h.0 = ap length split ∙ length-append (fields_of form l) (replicate h.0 []) ∙ rw (length-replicate {A = List ℕ} h.0 []) in
    record {
      blanks = h.0 + m;
      fields =
          ap (λ (fs : List (List ℕ)). fs ++ replicate m []) split
          ∙ append_assoc (fields_of form l) (replicate h.0 []) (replicate m [])
          ∙ ap (λ (fs : List (List ℕ)). fields_of form l ++ fs) (replicate-append-replicate h.0 m []);
      enough = omega arith;
    }

-- places stay small
pub left_few : (n c i named : ℕ) → n ≤ 80 → i ≤ c + 10 → named ≤ 10 → left_by n c i named ≡ true → i ≤ 90
left_few n c i named short near few e =
    ⊎_elim (λ (h : c < n). omega arith) (λ (h : n ≤ c). omega (arith, not_inside n c i named h e)) (below_or_not c n)

-- and the way to the line's end shorter
pub left_less : (n c i named next : ℕ) → left_by n c i named ≡ true → (c < n → c < next) → (n ≤ c → n ≤ next) → (n - next) + (named - (i + 1)) < (n - c) + (named - i)
left_less n c i named next e forth past =
    ⊎_elim
    (λ (h : c < n). omega (arith, forth h))
    (λ (h : n ≤ c). omega (arith, past h, not_inside n c i named h e))
    (below_or_not c n)

pub left_near : (n c i named next : ℕ) → i ≤ c + 10 → named ≤ 10 → left_by n c i named ≡ true → (c < n → c < next) → i + 1 ≤ next + 10
left_near n c i named next near few e forth =
    ⊎_elim
    (λ (h : c < n). omega (arith, forth h))
    (λ (h : n ≤ c). omega (arith, not_inside n c i named h e))
    (below_or_not c n)
