-- What a number of those limits would be told of the word: malformed or outside, it is another word; else it is kept.
use Rattle.std.proofs.Common.{rules}
use Rattle.amounts.specs.Values.{value_is}
use Rattle.rules.specs.Rules.{faulty_other, outside_other, inside_kept}
use Rattle.rules.proofs.limit_word.Goals.{in_default-via-in-Some+else-not-held, in_default-via-in_default}
use Rattle.rules.proofs.limit_word.Goals as goal

pub returns-in-Some : goal.returns-in-Some
returns-in-Some c =
    let x = c.args in
    inside_kept _ x.low x.high (value_is x.v) c.in-Some.held (search rules) c.in-Some.ensures

pub returns-in_default : goal.returns-in_default
returns-in_default c =
    let x = c.args in
    let told = c.other_word.ensures in
    elim c.in_default.branch [
      | in_default-via-in-Some+else-not-held w ↦
          outside_other _ x.low x.high (value_is x.v) c.other_word.result w.in-Some.held (search rules) (rw w.in-Some.is at c.limit_value.ensures) told
      | in_default-via-in_default w ↦ faulty_other _ x.low x.high (value_is x.v) c.other_word.result (rw w.in_default.is at c.limit_value.ensures) told
    ]
