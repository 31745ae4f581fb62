-- Two outcomes that meet a contract of this crate, as its `ensures` lines have it, are equal.
use mathlib.Core.Path.{◌≡◌, sym, ◌∙◌}
use Rattle.sequences.specs.OneOutcome.{Once}
use Rattle.stack.proofs.hold_none.Kinds as hold-none
use Rattle.stack.proofs.hold_none.Reads as hold-none-says
use Rattle.stack.proofs.hold_basin.Kinds as hold-basin
use Rattle.stack.proofs.hold_basin.Reads as hold-basin-says
use Rattle.stack.proofs.hold_inflow.Kinds as hold-inflow
use Rattle.stack.proofs.hold_inflow.Reads as hold-inflow-says
use Rattle.stack.proofs.join_last.Kinds as join_last
use Rattle.stack.proofs.join_last.Reads as join-last-says
use Rattle.stack.proofs.route_last.Kinds as route-last
use Rattle.stack.proofs.route_last.Reads as route-last-says
use Rattle.stack.proofs.pond_last.Kinds as pond-last
use Rattle.stack.proofs.pond_last.Reads as pond-last-says

pub one_hold_none : Once hold-none.ps hold-none.r hold-none-says.Post (λ κs x y e f. x ≡ y)
one_hold_none κs a x y e f p q = p ∙ sym q

pub one_hold_basin : Once hold-basin.ps hold-basin.r hold-basin-says.Post (λ κs x y e f. (x ≡ y) × (e.0.now ≡ f.0.now))
one_hold_basin κs a x y e f p q = (p.0 ∙ sym q.0, p.1.0 ∙ sym q.1.0)

pub one_hold_inflow : Once hold-inflow.ps hold-inflow.r hold-inflow-says.Post (λ κs x y e f. (x ≡ y) × (e.0.now ≡ f.0.now))
one_hold_inflow κs a x y e f p q = (p.0 ∙ sym q.0, p.1.0 ∙ sym q.1.0)

pub one_join_last : Once join_last.ps join_last.r join-last-says.Post (λ κs x y e f. (x ≡ y) × (e.0.now ≡ f.0.now))
one_join_last κs a x y e f p q = (p.0 ∙ sym q.0, p.1.0 ∙ sym q.1.0)

pub one_route_last : Once route-last.ps route-last.r route-last-says.Post (λ κs x y e f. e.0.now ≡ f.0.now)
one_route_last κs a x y e f p q = p.0 ∙ sym q.0

pub one_pond_last : Once pond-last.ps pond-last.r pond-last-says.Post (λ κs x y e f. (x ≡ y) × (e.0.now ≡ f.0.now))
one_pond_last κs a x y e f p q = (p.0 ∙ sym q.0, p.1.0 ∙ sym q.1.0)
