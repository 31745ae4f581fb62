-- Two outcomes that meet a contract of this crate, as its `ensures` lines have it, are equal.
use mathlib.Core.Path.{◌≡◌, sym, ◌∙◌}
use Rattle.sequences.specs.OneOutcome.{Once}
use Rattle.excess.proofs.storm_rain.Kinds as storm-rain
use Rattle.excess.proofs.storm_rain.Reads as storm-rain-says
use Rattle.excess.proofs.storm_excess.Kinds as storm-excess
use Rattle.excess.proofs.storm_excess.Reads as storm-excess-says

pub one_storm-rain : Once storm-rain.ps storm-rain.r storm-rain-says.Post (λ κs x y e f. e.0.now ≡ f.0.now)
one_storm-rain κs a x y e f p q = p ∙ sym q

pub one_storm-excess : Once storm-excess.ps storm-excess.r storm-excess-says.Post (λ κs x y e f. e.0.now ≡ f.0.now)
one_storm-excess κs a x y e f p q = p ∙ sym q
