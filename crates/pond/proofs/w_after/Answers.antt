-- `pond::w_after` meets its contract: what comes in has its limit, and twice the old outflow is at most W.
use Rattle.std.proofs.Common.{arith}
use Rattle.meaning.specs.Pool.{w_after}
use Rattle.pond.proofs.w_after.Goals as goal

pub returns : goal.returns
unfolding w_after
returns c = omega arith
