use Rattle.std.proofs.Common.{rules, tests}
use Rattle.meaning.specs.Words.{when◌then◌else◌}
use Rattle.passes.specs.Apart.{rank_of}
use Rattle.lending.proofs.rank_of.Goals as goal

pub returns-then-number : goal.returns-then-number
unfolding rank_of when◌then◌else◌
returns-then-number c = search (tests, rules)

pub returns-else-number : goal.returns-else-number
unfolding rank_of when◌then◌else◌
returns-else-number c = search (tests, rules)
