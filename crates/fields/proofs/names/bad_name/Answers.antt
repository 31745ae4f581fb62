-- Each way out is one way through the definition.
use Rattle.std.proofs.Common.{rules, arith, ◌∙◌}
use Rattle.fields.specs.NameLaws.{empty_bad, long_bad, blank_bad, blanks_any}
use Rattle.fields.proofs.names.bad_name.Goals as goal

pub returns-in-1-to-6 : goal.returns-in-1-to-6
returns-in-1-to-6 c = c.contains.ensures.value ∙ blanks_any c.args.name.now ∙ blank_bad c.args.name.now (omega arith) (omega arith)

pub returns-in_default : goal.returns-in_default
returns-in_default c = empty_bad c.args.name.now (omega arith)

pub returns-in_default-2 : goal.returns-in_default-2
returns-in_default-2 c = long_bad c.args.name.now (omega arith) (omega arith)
