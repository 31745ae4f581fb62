-- Two outcomes that meet a contract of this crate, as its `ensures` lines have it, are equal.
use mathlib.Core.Path.{◌≡◌, sym, ◌∙◌}
use Rattle.sequences.specs.OneOutcome.{Once}
use Rattle.routing.proofs.is_unroutable.Kinds as is-unroutable
use Rattle.routing.proofs.is_unroutable.Reads as is-unroutable-says
use Rattle.routing.proofs.route.Kinds as route
use Rattle.routing.proofs.route.Reads as route-says

pub one_is_unroutable : Once is-unroutable.ps is-unroutable.r is-unroutable-says.Post (λ κs x y e f. x ≡ y)
one_is_unroutable κs a x y e f p q = p ∙ sym q

pub one_route : Once route.ps route.r route-says.Post (λ κs x y e f. e.0.now ≡ f.0.now)
one_route κs a x y e f p q = p ∙ sym q
