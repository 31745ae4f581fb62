-- Two outcomes that meet a contract of this crate, as its `ensures` line has it, are equal: the storm of a block; what is held and the work words.
use mathlib.Core.Path.{◌≡◌, sym, ◌∙◌}
use mathlib.Core.List.{[]}
use Rattle.sequences.specs.OneOutcome.{Once}
use Rattle.making.proofs.storm_of.Kinds as storm-of
use Rattle.making.proofs.storm_of.Reads as storm-of-says
use Rattle.making.proofs.make.Kinds as make
use Rattle.making.proofs.make.Reads as make-says

pub one_storm_of : Once storm-of.ps storm-of.r storm-of-says.Post (λ κs x y e f. x ≡ y)
one_storm_of κs a x y e f p q = p [] ∙ sym (q [])

pub one_make : Once make.ps make.r make-says.Post (λ κs x y e f. (x ≡ y) × (e.0.now ≡ f.0.now))
one_make κs a x y e f p q =
    let one = p [] in
    let other = q [] in
    let next = one.makes.stack ∙ sym other.makes.stack in
    (one.answer ∙ rw next (sym other.answer), one.makes.words ∙ sym other.makes.words)
