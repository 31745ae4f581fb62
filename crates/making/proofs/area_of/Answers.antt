-- `making::area_of` meets its contract: the value is within its limit.
use mathlib.Core.List.{[]}
use native.Mathlib.Omega.{arith}
use Rattle.meaning.specs.Records.{BA}
use Rattle.making.proofs.area_of.Goals as goal

pub overflow_cast-result : goal.overflow_cast-result
overflow_cast-result c = omega (arith, c.value_at.ensures [], (c.requires.1 BA).high 0)

pub returns : goal.returns
returns c = λ name. omega (arith, c.value_at.ensures name)
