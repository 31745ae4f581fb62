-- One store.
use Rattle.text.specs.Written.{written_byte}
use borrow.Author.Rules.{rules}
use Rattle.text.proofs.write_byte.Goals as goal

pub returns : goal.returns
returns c = written_byte c.args.out.now c.args.at c.args.b c.requires
