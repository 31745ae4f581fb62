use Rattle.std.proofs.Common.{rules, tests}
use Rattle.meaning.specs.Words.{when◌then◌else◌}
use Rattle.passes.specs.Apart.{comes_first}
use Rattle.lending.proofs.comes_first.Goals as goal

pub returns-then-a-b : goal.returns-then-a-b
unfolding comes_first when◌then◌else◌
returns-then-a-b c = search (tests, rules)

pub returns-then-b-eq0 : goal.returns-then-b-eq0
unfolding comes_first when◌then◌else◌
returns-then-b-eq0 c = search (tests, rules)

pub returns-else-b-eq0 : goal.returns-else-b-eq0
unfolding comes_first when◌then◌else◌
returns-else-b-eq0 c = search (tests, rules)

pub returns-else-a-ne0 : goal.returns-else-a-ne0
unfolding comes_first when◌then◌else◌
returns-else-a-ne0 c = search (tests, rules)
