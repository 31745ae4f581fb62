-- From the last byte to the first: x is the number that the bytes behind the rest hold.
use Prim.Native.Nat.{ℕ, ◌<◌, ◌≤◌}
use Rattle.std.specs.declared.iter.Rev.{Rev}
use mathlib.Core.Path.{◌≡◌, refl, sym, ap, ◌∙◌}
use mathlib.Core.List.{List, [], ◌∷◌, ◌++◌}
use native.Mathlib.Omega.{arith}
use lib.ListN.{length}
use Rattle.std.proofs.Common.{Iter, append-nil, append_assoc, length-append}
use Rattle.slices.specs.Bytes.{from_little_endian, few_bytes, byte_more}
use Rattle.slices.proofs.read_le.Goals as goal

pub loop-byte-init : goal.loop-byte-init
loop-byte-init c =
    let source = ap (λ (i : Iter ℕ). i.rest.now) (ap (λ (r : Rev (Iter ℕ)). r.iter) c.into_iter-byte-iterator.ensures.into_iter_gives ∙ c.rev-byte-items.ensures.source) ∙ c.iter.ensures.rest in
    ([], sym (append-nil _ ∙ source), refl, omega arith)

-- What is read has at most seven bytes where a byte stands before it.
few : (s all rest read : List ℕ) (b : ℕ) → s ≡ all ++ read → all ≡ rest ++ (b ∷ []) → length s ≤ 8 → length read ≤ 7
few s all rest read b e h k = omega (arith, k, ap length e, length-append all read, ap length h, length-append rest (b ∷ []))

pub overflow_mul-x : goal.overflow_mul-x
overflow_mul-x c =
    let read = c.loop-byte.invariant in
    omega (arith, few_bytes (length read.0) c.loop-byte.x read.3 (few _ _ _ read.0 _ read.1 c.in-Some.ensures.steps c.requires))

pub overflow_add-x : goal.overflow_add-x
overflow_add-x c =
    let read = c.loop-byte.invariant in
    omega (arith, few_bytes (length read.0) c.loop-byte.x read.3 (few _ _ _ read.0 _ read.1 c.in-Some.ensures.steps c.requires))

pub loop-byte-preserved : goal.loop-byte-preserved
loop-byte-preserved c =
    let l = c.loop-byte in
    let read = l.invariant in
    let byte = c.in-Some.field-0.now in
    let small : byte < 256 = omega arith in (
      byte ∷ read.0,
      read.1 ∙ ap (λ (s : List ℕ). s ++ read.0) c.in-Some.ensures.steps ∙ append_assoc c.next.new.self.iter.rest.now (byte ∷ []) read.0,
      omega (arith, read.2),
      byte_more (length read.0) l.x byte read.3 small,
    )

-- Where no byte is left, all are read.
all_read : (s rest read : List ℕ) → s ≡ rest ++ read → length rest ≡ 0 → read ≡ s
all_read s [] read e h = sym e
all_read s (b ∷ rest) read e h = absurd (omega arith)

pub returns : goal.returns
returns c =
    let l = c.loop-byte in
    let read = l.invariant in
    let all = all_read _ _ read.0 read.1 c.in-None.ensures.steps.0 in
    record { number = read.2 ∙ ap from_little_endian all; small = rw all at read.3 }
