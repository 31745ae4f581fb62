-- Each number is the one in its four bytes.
use Rattle.moves.specs.Case.{case-of}
use Rattle.moves.proofs.read_move.Goals as goal

pub returns : goal.returns
returns c =
    let b = c.args.b.now in
    case-of b c.number_at.ensures c.number_at-2.ensures c.number_at-3.ensures
