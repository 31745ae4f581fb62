-- Two outcomes that meet a contract of this crate, as its `ensures` line has it, are equal: the answer and every byte of the room.
use mathlib.Core.Path.{◌≡◌, sym, ap, ◌∙◌}
use Rattle.meaning.specs.Moving.{Outcome}
use Rattle.sequences.specs.OneOutcome.{Once}
use Rattle.moving.specs.Answers.{move-told}
use Rattle.moving.proofs.to_new.Kinds as to-new
use Rattle.moving.proofs.to_new.Reads as to-new-says
use Rattle.moving.proofs.to_old.Kinds as to-old
use Rattle.moving.proofs.to_old.Reads as to-old-says

-- file, room
pub one_to_new : Once to-new.ps to-new.r to-new-says.Post (λ κs x y e f. (x ≡ y) × (e.1.0.now ≡ f.1.0.now))
one_to_new κs a x y e f p q =
    let same = p ∙ sym q in
    (move-told x y (ap (λ (o : Outcome). o.answer) same), ap (λ (o : Outcome). o.room) same)

pub one_to_old : Once to-old.ps to-old.r to-old-says.Post (λ κs x y e f. (x ≡ y) × (e.1.0.now ≡ f.1.0.now))
one_to_old κs a x y e f p q =
    let same = p ∙ sym q in
    (move-told x y (ap (λ (o : Outcome). o.answer) same), ap (λ (o : Outcome). o.room) same)
