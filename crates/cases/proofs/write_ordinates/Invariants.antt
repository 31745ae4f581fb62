-- After i turns the first i ordinates are written, at most 21 bytes each.
use Prim.Native.Nat.{◌+◌, ◌*◌, ◌≤◌}
use mathlib.Core.Path.{◌≡◌}
use lib.ListN.{length, take}
use Rattle.text.specs.Written.{Written}
use Rattle.cases.specs.Sizes.{ordinate_size}
use Rattle.cases.specs.Text.{numbers_from}
use Rattle.cases.proofs.write_ordinates.Given as goal

abbrev pub invariant-loop-i : goal.invariant-loop-i
invariant-loop-i l =
    (l.i ≤ length l.ordinates) × (l.at ≤ l.start + ordinate_size * l.i) × (length l.out ≡ length l.initial.out) × Written l.initial.out l.start (numbers_from 0 (take l.i l.ordinates)) l.out l.at
