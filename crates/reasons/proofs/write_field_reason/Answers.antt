-- By the rule.
use Rattle.meaning.specs.Reasons.{field_reason}
use Rattle.reasons.proofs.write_field_reason.Goals as goal

pub returns-in-Unnamed : goal.returns-in-Unnamed
unfolding field_reason
returns-in-Unnamed c = rw c.in-Unnamed.is c.write_text.ensures

pub returns-in-NotRead : goal.returns-in-NotRead
unfolding field_reason
returns-in-NotRead c = rw c.in-NotRead.is c.write_text-in-NotRead.ensures

pub returns-in-Limited : goal.returns-in-Limited
unfolding field_reason
returns-in-Limited c = rw c.in-Limited.is c.write_number_reason.ensures

pub returns-in-Worded : goal.returns-in-Worded
unfolding field_reason
returns-in-Worded c = rw c.in-Worded.is c.write_rule.ensures
