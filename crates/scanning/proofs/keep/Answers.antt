-- The test is the definition's own.
use Rattle.std.proofs.Common.{arith, lt-ltb, le-ltb}
use Rattle.meaning.specs.Words.{when◌then◌else◌}
use Rattle.scanning.specs.Pass.{kept}
use Rattle.scanning.proofs.keep.Goals as goal

pub returns-then-k-values : goal.returns-then-k-values
unfolding kept when◌then◌else◌
returns-then-k-values c = rw (lt-ltb c.args.k 10 (omega arith))

pub returns-else-k-values : goal.returns-else-k-values
unfolding kept when◌then◌else◌
returns-else-k-values c = rw (le-ltb c.args.k 10 (omega arith))
