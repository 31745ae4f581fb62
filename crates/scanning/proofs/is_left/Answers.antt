-- By the test.
use Rattle.std.proofs.Common.{lt-ltb, le-ltb}
use Rattle.meaning.specs.Words.{when◌then◌else◌}
use Rattle.scanning.proofs.is_left.Goals as goal

pub returns-then-c-length : goal.returns-then-c-length
unfolding when◌then◌else◌
returns-then-c-length c = rw (lt-ltb _ _ c.if-c-length.true)

pub returns-else-c-length : goal.returns-else-c-length
unfolding when◌then◌else◌
returns-else-c-length c = rw (le-ltb _ _ c.if-c-length.false)
