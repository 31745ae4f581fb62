-- The copy leaves the name in front.
use Rattle.std.proofs.Common.{arith}
use Rattle.std.proofs.Math.Seq.{take-length}
use Rattle.std.proofs.Common.{ℕ, List, ◌≡◌, ◌++◌, length, take, refl}
use lib.Seq.{take_at}
use Rattle.placing.proofs.names.copy_name.Goals as goal

pub returns : goal.returns
returns c = (rw c.copy_from_slice.ensures.after (take_at c.args.f.now _ (length c.args.f.now) refl), omega arith)
