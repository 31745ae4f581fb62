-- After so many turns the bytes before are written, and those of the rest of the number will stand where the others are.
use Prim.Native.Nat.{ℕ}
use mathlib.Core.Path.{◌≡◌}
use mathlib.Core.List.{List, ◌++◌}
use lib.ListN.{length, take, drop}
use Rattle.meaning.specs.Results.{little_endian}
use Rattle.slices.proofs.put_le.Given as goal

-- a number's bytes in the place of a list
abbrev pub over : ℕ → List ℕ → List ℕ
over x l = little_endian (length l) x

abbrev pub invariant-loop-byte : goal.invariant-loop-byte
invariant-loop-byte l = take l.byte-index l.byte-items ++ over l.rest (drop l.byte-index l.byte-items) ≡ over l.x l.fn.s
