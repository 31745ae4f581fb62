-- Each number is the one in its four bytes.
use Rattle.cases.specs.Case.{case-of}
use Rattle.cases.proofs.read_case.Goals as goal

pub returns : goal.returns
returns c =
    let b = c.args.b.now in
    case-of b
    c.number_at.ensures
    c.number_at-2.ensures
    c.number_at-3.ensures
    c.number_at-4.ensures
    c.number_at-5.ensures
    c.number_at-6.ensures
