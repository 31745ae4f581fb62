-- Two outcomes that meet a contract of this crate, as its `ensures` lines have it, are equal.
use Prim.Native.Nat.{ℕ}
use mathlib.Core.Path.{◌≡◌, sym, ap, ◌∙◌}
use Rattle.sequences.specs.OneOutcome.{Once}
use Rattle.storms.proofs.rain_at.Kinds as rain-at
use Rattle.storms.proofs.rain_at.Reads as rain-at-says
use Rattle.storms.proofs.is_dry.Kinds as is-dry
use Rattle.storms.proofs.is_dry.Reads as is-dry-says
use Rattle.storms.proofs.list_rain.Kinds as list-rain
use Rattle.storms.proofs.list_rain.Reads as list-rain-says
use Rattle.storms.proofs.cut.Kinds as cut
use Rattle.storms.proofs.cut.Reads as cut-says
use Rattle.storms.proofs.storm_into.Kinds as storm-into
use Rattle.storms.proofs.storm_into.Reads as storm-into-says

pub one_rain_at : Once rain-at.ps rain-at.r rain-at-says.Post (λ κs x y e f. x ≡ y)
one_rain_at κs a x y e f p q = ap (λ (n : ℕ). record { 0 = n }) (p ∙ sym q)

pub one_is_dry : Once is-dry.ps is-dry.r is-dry-says.Post (λ κs x y e f. x ≡ y)
one_is_dry κs a x y e f p q = p ∙ sym q

pub one_list_rain : Once list-rain.ps list-rain.r list-rain-says.Post (λ κs x y e f. (x ≡ y) × (e.0.now ≡ f.0.now))
one_list_rain κs a x y e f p q = (p.1 ∙ sym q.1, p.0 ∙ sym q.0)

pub one_cut : Once cut.ps cut.r cut-says.Post (λ κs x y e f. e.0.now ≡ f.0.now)
one_cut κs a x y e f p q = p ∙ sym q

pub one_storm_into : Once storm-into.ps storm-into.r storm-into-says.Post (λ κs x y e f. e.0.now ≡ f.0.now)
one_storm_into κs a x y e f p q = p ∙ sym q
