-- After i turns the lines under the first i ratios are written. A turn's records are one lot of all, and its lines take one part of the room.
use Rattle.std.proofs.Common.{◌≡◌, length}
use Rattle.text.specs.Written.{Written}
use Rattle.printing.specs.Lines.{under_to}
use Rattle.printing.proofs.write_ratios.Given as goal

abbrev pub invariant-loop-i : goal.invariant-loop-i
invariant-loop-i l = (length l.out ≡ length l.initial.out) × Written l.initial.out 0 (under_to l.i l.fn.ratios l.fn.blocks l.fn.records) l.out l.at
