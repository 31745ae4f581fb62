-- Two outcomes that meet a contract of this crate, as its `ensures` lines have it, are equal.
use mathlib.Core.Path.{◌≡◌, sym, ◌∙◌}
use Rattle.sequences.specs.OneOutcome.{Once}
use Rattle.runoff.proofs.runoff_into.Kinds as runoff-into
use Rattle.runoff.proofs.runoff_into.Reads as runoff-into-says
use Rattle.runoff.proofs.inflow_into.Kinds as inflow-into
use Rattle.runoff.proofs.inflow_into.Reads as inflow-into-says

pub one_runoff_into : Once runoff-into.ps runoff-into.r runoff-into-says.Post (λ κs x y e f. e.0.now ≡ f.0.now)
one_runoff_into κs a x y e f p q = p ∙ sym q

pub one_inflow_into : Once inflow-into.ps inflow-into.r inflow-into-says.Post (λ κs x y e f. e.0.now ≡ f.0.now)
one_inflow_into κs a x y e f p q = p ∙ sym q
