-- Two outcomes that meet a contract of this crate, as its `ensures` line has it, are equal: the answer and every word and byte lent.
use mathlib.Core.Path.{◌≡◌, refl, sym, ap, ◌∙◌}
use native.Mathlib.Omega.{arith}
use Rattle.std.specs.Prelude as std
use Rattle.std.specs.Prelude.{Ok, Err}
use Rattle.meaning.specs.Run.{Outcome}
use Rattle.sequences.specs.OneOutcome.{Once}
use Rattle.refusals.specs.declared.Refusal.{Refusal}
use Rattle.refusals.specs.Numbers.{refusal_number, refusal_in, named_by, named_back, same_number}
use Rattle.answers.specs.Answers.{answer-told}
use Rattle.answers.proofs.refuse.Kinds as refuse
use Rattle.answers.proofs.refuse.Reads as refuse-says
use Rattle.answers.proofs.settle.Kinds as settle
use Rattle.answers.proofs.settle.Reads as settle-says
use Rattle.answers.proofs.size_refusal.Kinds as size-refusal
use Rattle.answers.proofs.size_refusal.Reads as size-refusal-says

-- no refusal has the number 0
some : (r : Refusal) → refusal_number r ≡ 0 → ⊥
some r h = let one : refusal_number r ≡ 1 = ap refusal_number (sym (named_back r) ∙ ap named_by h) in omega (arith, h, one)

one_refused : (x y : std.Result Unit Refusal) → refusal_in x ≡ refusal_in y → x ≡ y
one_refused (Ok x) (Ok y) h = refl
one_refused (Ok x) (Err s) h = absurd (some s (sym h))
one_refused (Err r) (Ok y) h = absurd (some r h)
one_refused (Err r) (Err s) h = ap Err (same_number r s h)

pub one_size-refusal : Once size-refusal.ps size-refusal.r size-refusal-says.Post (λ κs x y e f. x ≡ y)
one_size-refusal κs a x y e f p q = one_refused x y (p ∙ sym q)

-- reason, words, flows, bytes
pub one_refusal : Once refuse.ps refuse.r refuse-says.Post
    (λ κs x y e f. (x ≡ y) × (e.1.0.now ≡ f.1.0.now) × (e.1.1.0.now ≡ f.1.1.0.now) × (e.1.1.1.0.now ≡ f.1.1.1.0.now))
one_refusal κs a x y e f p q =
    let same = p ∙ sym q in
    (answer-told x y (ap (λ (o : Outcome). o.answer) same), ap (λ (o : Outcome). o.work) same, ap (λ (o : Outcome). o.ordinates) same, ap (λ (o : Outcome). o.records) same)

-- found, wanted, work, ordinates, records
pub one_settlement : Once settle.ps settle.r settle-says.Post
    (λ κs x y e f.
    let d = e.1.1 in
    let g = f.1.1 in
    (x ≡ y) × (d.0.now ≡ g.0.now) × (d.1.0.now ≡ g.1.0.now) × (d.1.1.0.now ≡ g.1.1.0.now))
one_settlement κs a x y e f p q =
    let same = p ∙ sym q in
    (answer-told x y (ap (λ (o : Outcome). o.answer) same), ap (λ (o : Outcome). o.work) same, ap (λ (o : Outcome). o.ordinates) same, ap (λ (o : Outcome). o.records) same)
