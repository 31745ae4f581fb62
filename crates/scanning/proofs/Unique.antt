-- Two outcomes that meet a contract of this crate, as its `ensures` line has it, are equal.
use Rattle.std.specs.Prelude.{ℕ, List, Result, Ok, Err}
use Rattle.std.proofs.Common.{◌≡◌, sym, ap, ◌∙◌, true≢false}
use Rattle.sequences.specs.OneOutcome.{Once}
use Rattle.meaning.specs.Records.{Rule}
use Rattle.refusals.specs.declared.Refusal.{Refusal}
use Rattle.records.specs.Rows.{rules_by}
use Rattle.scanning.specs.declared.Scan.{Scan}
use Rattle.scanning.specs.Pass.{Scanned}
use Rattle.scanning.specs.Scans.{Notes}
use Rattle.scanning.proofs.note_field.Kinds as note-field
use Rattle.scanning.proofs.note_field.Reads as note-field-says
use Rattle.scanning.proofs.is_left.Kinds as is-left
use Rattle.scanning.proofs.is_left.Reads as is-left-says
use Rattle.scanning.proofs.next_span.Kinds as next-span
use Rattle.scanning.proofs.next_span.Reads as next-span-says

one-noted : (rules : List Rule) (k : ℕ) (f values : List ℕ) (s : Scan) (v w : List ℕ) (x y : Result Scan Refusal)
    → Notes rules k f values s v x → Notes rules k f values s w y → (x ≡ y) × (v ≡ w)
one-noted rules k f values s v w (Ok x) (Ok y) p q =
    let same = p.1 ∙ sym q.1 in
    (rw (ap (λ (s : Scanned). s.count) same, ap (λ (s : Scanned). s.outside) same), ap (λ (s : Scanned). s.values) same)
one-noted rules k f values s v w (Ok x) (Err y) p q = absurd (true≢false (sym q.0 ∙ p.0))
one-noted rules k f values s v w (Err x) (Ok y) p q = absurd (true≢false (sym p.0 ∙ q.0))
one-noted rules k f values s v w (Err x) (Err y) p q = (ap Err (p.1 ∙ sym q.1), p.2 ∙ sym q.2)

pub one_note-field : Once note-field.ps note-field.r note-field-says.Post (λ κs x y e f. (x ≡ y) × (e.0.now ≡ f.0.now))
one_note-field κs a x y e f p q = one-noted (rules_by a.1.1.0) a.1.1.1.0 a.1.1.1.1.0.now a.0.now a.1.0 _ _ x y p q

pub one_is_left : Once is-left.ps is-left.r is-left-says.Post (λ κs x y e f. x ≡ y)
one_is_left κs a x y e f p q = cc

pub one_next_span : Once next-span.ps next-span.r next-span-says.Post (λ κs x y e f. x ≡ y)
one_next_span κs a x y e f p q = cc
