-- The loop keeps what its run of digits will read on to; each digit makes the number at most ten times as large.
use Prim.Native.Nat.{◌*◌, ◌^◌, ◌<◌}
use mathlib.Core.Path.{◌≡◌}
use Rattle.numbers.specs.Reading.{digits_from}
use Rattle.numbers.proofs.read_digits.Given as goal

abbrev pub invariant-loop-i : goal.invariant-loop-i
invariant-loop-i l = (l.value < 10 ^ 9 * 10 ^ l.i) × (digits_from l.s l.i l.value ≡ digits_from l.s 0 l.start)
