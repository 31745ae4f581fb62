-- `shaping::reach_of` meets its contract: each value is the card's own.
use native.Mathlib.Omega.{arith}
use Rattle.shaping.proofs.reach_of.Goals as goal

pub returns : goal.returns
returns c = λ name. (omega (arith, c.value_at-steps.ensures name), omega (arith, c.value_at-k.ensures name), omega (arith, c.value_at-x.ensures name))
