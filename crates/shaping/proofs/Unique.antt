-- Two answers that meet a contract of this crate, as its `ensures` line has it, are equal.
use mathlib.Core.Path.{◌≡◌, sym, ◌∙◌}
use mathlib.Core.List.{[]}
use Rattle.sequences.specs.OneOutcome.{Once}
use Rattle.std.specs.Prelude.{Some, Result, Ok, Err}
use Rattle.refusals.specs.Numbers.{same_number, some_number}
use Rattle.kinds.specs.Kinds.{kind_meant, kind_told}
use Rattle.shaping.specs.declared.Shape.{Shape}
use Rattle.shaping.specs.declared.Unfit.{Unfit}
use Rattle.shaping.specs.Shapes.{number_in, kind_in, after_in}
use Rattle.shaping.proofs.number_of.Kinds as number_of_lem
use Rattle.shaping.proofs.number_of.Reads as number-of-says
use Rattle.shaping.proofs.reach_of.Kinds as reach_of
use Rattle.shaping.proofs.reach_of.Reads as reach-of-says
use Rattle.shaping.proofs.shape_of.Kinds as shape_of
use Rattle.shaping.proofs.shape_of.Reads as shape-of-says

pub one_number_of : Once number_of_lem.ps number_of_lem.r number-of-says.Post (λ κs x y e f. x ≡ y)
one_number_of κs a x y e f p q = cc

pub one_reach_of : Once reach_of.ps reach_of.r reach-of-says.Post (λ κs x y e f. x ≡ y)
one_reach_of κs a x y e f p q =
    let one = p [] in
    let other = q [] in
    rw (one.0, one.1, one.2, other.0, other.1, other.2)

pub one_shape_of : Once shape_of.ps shape_of.r shape-of-says.Post (λ κs x y e f. x ≡ y)
one_shape_of κs a x y e f p q =
    let number = (p []).number ∙ sym (q []).number in
    let kind = (p []).kind ∙ sym (q []).kind in
    let after = (rw number at (p []).after) ∙ sym (q []).after in
    same x y number kind after
  where
    same : (x y : Result Shape Unfit) → number_in x ≡ number_in y → kind_meant (kind_in x) ≡ kind_meant (kind_in y) → after_in x ≡ after_in y → x ≡ y
    same (Ok s) (Ok t) number kind after = let told = kind_told (Some s.kind) (Some t.kind) kind in let one : s.kind ≡ t.kind = cc in rw (one, after)
    same (Ok s) (Err v) number kind after = absurd (some_number v.refusal (sym number))
    same (Err u) (Ok t) number kind after = absurd (some_number u.refusal number)
    same (Err u) (Err v) number kind after = rw (same_number u.refusal v.refusal number, kind_told u.kind v.kind kind, after)
