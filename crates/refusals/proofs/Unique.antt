-- Two outcomes that meet a contract of this crate, as its `ensures` line has it, are equal.
use mathlib.Core.Path.{◌≡◌, refl, sym, ap, ◌∙◌}
use Rattle.std.specs.Prelude.{ℕ, Option, Some, None}
use Rattle.sequences.specs.OneOutcome.{Once}
use Rattle.refusals.specs.declared.Refusal.{Refusal}
use Rattle.refusals.specs.Numbers.{same_number, IsNamed}
use Rattle.refusals.proofs.Refusal.number.Kinds as number
use Rattle.refusals.proofs.Refusal.number.Reads as number-says
use Rattle.refusals.proofs.Refusal.of_number.Kinds as of-number
use Rattle.refusals.proofs.Refusal.of_number.Reads as of-number-says
use Rattle.refusals.proofs.Refusal.at_line.Kinds as at-line
use Rattle.refusals.proofs.Refusal.at_line.Reads as at-line-says

pub one_number : Once number.ps number.r number-says.Post (λ κs x y e f. x ≡ y)
one_number κs a x y e f p q = cc

named_once : (n : ℕ) (x y : Option Refusal) → IsNamed n x → IsNamed n y → x ≡ y
named_once n (Some r) (Some s) p q = ap Some (same_number r s (p ∙ sym q))
named_once n (Some r) None p q = absurd (q (r, p))
named_once n None (Some s) p q = absurd (p (s, q))
named_once n None None p q = refl

pub one_of-number : Once of-number.ps of-number.r of-number-says.Post (λ κs x y e f. x ≡ y)
one_of-number κs a x y e f p q = named_once _ x y p q

pub one_at-line : Once at-line.ps at-line.r at-line-says.Post (λ κs x y e f. x ≡ y)
one_at-line κs a x y e f p q =
    let numbers : x.number ≡ y.number = p.0 ∙ sym q.0 in
    let lines : x.line ≡ y.line = p.1 ∙ sym q.1 in
    rw (numbers, lines)
