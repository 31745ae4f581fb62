-- Four bytes are zero where their number is.
use Rattle.forms.specs.Tests.{tail_told}
use Rattle.forms.proofs.is_tail_filled.Goals as goal

pub returns : goal.returns
returns c =
    let start = c in
    rw c.read_le.ensures.number (tail_told start.args.r.now start.requires)
