-- After i turns the lines of the first i ordinates are written, each within its size.
use Rattle.std.proofs.Common.{◌≡◌, length, take}
use Rattle.meaning.specs.Hydrograph.{ordinate_lines}
use Rattle.text.specs.Written.{Written}
use Rattle.graphing.proofs.write_hydrograph.Given as goal

abbrev pub invariant-loop-i : goal.invariant-loop-i
invariant-loop-i l = (length l.out ≡ length l.initial.out) × Written l.initial.out l.initial.at (ordinate_lines l.fn.minutes 1 (take l.i l.fn.flows)) l.out l.at
