-- Four bytes are those of ratio 100 and place 1 where their number is.
use Rattle.forms.specs.Tests.{other_told}
use borrow.Author.Rules.{rules}
use Rattle.forms.proofs.is_other.Goals as goal

pub returns : goal.returns
returns c =
    rw c.read_le.ensures.number (other_told c.args.r.now c.requires (λ k. search rules))
