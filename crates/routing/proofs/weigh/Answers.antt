-- `routing::weigh` meets its contract: its sum is the one that is meant.
use mathlib.Core.Path.{◌∙◌}
use native.Mathlib.Omega.{arith}
use Rattle.meaning.specs.Water.{weighed}
use Rattle.routing.proofs.weigh.Goals as goal

pub returns : goal.returns
unfolding weighed
returns c = c.plain.ensures ∙ omega arith
