-- Two outcomes that meet a contract of this crate, as its `ensures` lines have it, are equal.
use Prim.Native.Nat.{ℕ}
use mathlib.Core.Path.{◌≡◌, sym, ap, ◌∙◌}
use Rattle.sequences.specs.OneOutcome.{Once}
use Rattle.units.proofs.depth_of.Kinds as depth-of
use Rattle.units.proofs.depth_of.Reads as depth-of-says
use Rattle.units.proofs.uniform_loss.Kinds as uniform-loss
use Rattle.units.proofs.uniform_loss.Reads as uniform-loss-says
use Rattle.units.proofs.flow_of.Kinds as flow-of
use Rattle.units.proofs.flow_of.Reads as flow-of-says
use Rattle.units.proofs.value_at.Kinds as value-at
use Rattle.units.proofs.value_at.Reads as value-at-says
use Rattle.units.proofs.plain.Kinds as plain
use Rattle.units.proofs.plain.Reads as plain-says

pub one_depth_of : Once depth-of.ps depth-of.r depth-of-says.Post (λ κs x y e f. x ≡ y)
one_depth_of κs a x y e f p q = ap (λ (n : ℕ). record { 0 = n }) (p ∙ sym q)

pub one_uniform_loss : Once uniform-loss.ps uniform-loss.r uniform-loss-says.Post (λ κs x y e f. x ≡ y)
one_uniform_loss κs a x y e f p q = ap (λ (n : ℕ). record { 0 = n }) (p ∙ sym q)

pub one_flow_of : Once flow-of.ps flow-of.r flow-of-says.Post (λ κs x y e f. x ≡ y)
one_flow_of κs a x y e f p q = ap (λ (n : ℕ). record { 0 = n }) (p ∙ sym q)

pub one_value_at : Once value-at.ps value-at.r value-at-says.Post (λ κs x y e f. x ≡ y)
one_value_at κs a x y e f p q = p ∙ sym q

pub one_plain : Once plain.ps plain.r plain-says.Post (λ κs x y e f. x ≡ y)
one_plain κs a x y e f p q = p ∙ sym q
