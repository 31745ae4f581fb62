-- From the last byte to the first: x is the number that the bytes behind the rest hold.
use Prim.Native.Nat.{ℕ, ◌^◌, ◌<◌}
use mathlib.Core.Path.{◌≡◌}
use mathlib.Core.List.{List, ◌++◌}
use lib.ListN.{length}
use Rattle.slices.specs.Bytes.{from_little_endian}
use Rattle.slices.proofs.read_le.Given as goal

abbrev pub invariant-loop-byte : goal.invariant-loop-byte
invariant-loop-byte l = (read : List ℕ) × (l.fn.s ≡ l.byte-iterator.iter.rest.now ++ read) × (l.x ≡ from_little_endian read) × (l.x < 256 ^ length read)
