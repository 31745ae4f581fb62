use Rattle.std.proofs.Common.{rules, tests}
use Rattle.meaning.specs.Words.{when◌then◌else◌}
use Rattle.lending.specs.Lent.{records_from}
use Rattle.lending.proofs.records_from.Goals as goal

pub returns-in-Ok : goal.returns-in-Ok
unfolding records_from when◌then◌else◌
returns-in-Ok c = search (tests, rules)

pub returns-in-Err : goal.returns-in-Err
unfolding records_from when◌then◌else◌
returns-in-Err c = search (tests, rules)
