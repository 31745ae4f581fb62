use Rattle.std.proofs.Common.{rules, tests}
use Rattle.meaning.specs.Words.{when◌then◌else◌}
use Rattle.lending.specs.Lent.{ordinates_from}
use Rattle.lending.proofs.ordinates_from.Goals as goal

pub returns-then-ratio-place : goal.returns-then-ratio-place
unfolding ordinates_from when◌then◌else◌
returns-then-ratio-place c = search (tests, rules)

pub returns-else-not-refused : goal.returns-else-not-refused
unfolding ordinates_from when◌then◌else◌
returns-else-not-refused c = search (tests, rules)
