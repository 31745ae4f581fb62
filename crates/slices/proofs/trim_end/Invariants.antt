-- What is left has the same bytes without its last ones as the whole.
use mathlib.Core.Path.{◌≡◌}
use lib.ListN.{length}
use Rattle.meaning.specs.Fields.{trim_end}
use Rattle.slices.specs.Bytes.{is_byte}
use Rattle.slices.proofs.trim_end.Given as goal

abbrev pub invariant-loop-front : goal.invariant-loop-front
invariant-loop-front l = trim_end (is_byte l.byte) l.left ≡ trim_end (is_byte l.byte) l.s

abbrev pub decreases-loop-front : goal.decreases-loop-front
decreases-loop-front l = length l.left
