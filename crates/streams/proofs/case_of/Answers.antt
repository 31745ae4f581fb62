-- Each number stands in four bytes, and none of them is above 255.
use Prim.Native.Nat.{ℕ, ◌+◌, ◌^◌, ◌≤◌, ◌<◌}
use native.Mathlib.Omega.{arith}
use lib.ListN.{length}
use Rattle.sequences.specs.Bounds.{AllUpTo, bound_part}
use Rattle.sequences.specs.Parts.{part, length_part}
use Rattle.slices.specs.Bytes.{from_little_endian, value_below}
use Rattle.streams.proofs.case_of.Goals as goal

pub returns : goal.returns
returns c =
    let head = c.args.head.now in
    let bytes : AllUpTo 255 head = λ (k : ℕ). grind arith in
    let below : (at : ℕ) → at + 4 ≤ length head → from_little_endian (part at 4 head) < 256 ^ 4 =
    λ (at : ℕ) (fits : at + 4 ≤ length head). rw (length_part at 4 head fits) at (value_below (part at 4 head) (bound_part 255 at 4 head bytes)) in
    record {
      named = rw c.number_at.ensures (below 0 (omega arith));
      ratio = rw c.number_at-2.ensures (below 4 (omega arith));
      size = rw c.number_at-3.ensures (below 8 (omega arith));
    }
