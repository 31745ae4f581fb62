-- The copy leaves the ratios in front, and the count is theirs.
use lib.Seq.{take-append_seam}
use Rattle.taking.proofs.copy_ratios.Goals as goal

pub returns : goal.returns
returns c = (rw c.copy_words.ensures (take-append_seam _ _), c.requires)
