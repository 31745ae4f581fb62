-- After so many turns the bytes before are written, and those of the rest of the number will stand where the others are.
use Prim.Native.Nat.{◌/◌}
use mathlib.Core.Path.{refl, sym, ◌∙◌}
use native.Mathlib.Omega.{arith}
use Rattle.sequences.specs.Overwriting.{overwrite_one, overwrite_done}
use Rattle.slices.proofs.put_le.Invariants.{over}
use Rattle.slices.proofs.put_le.Goals as goal

pub loop-byte-init : goal.loop-byte-init
loop-byte-init c = refl

pub loop-byte-preserved : goal.loop-byte-preserved
loop-byte-preserved c =
    let l = c.loop-byte in
    overwrite_one (over l.rest) (over (l.rest / 256)) l.byte-items l.byte-index _ (omega (arith, l.auto.byte-items)) refl ∙ l.invariant

pub returns : goal.returns
returns c =
    let l = c.loop-byte in
    sym (overwrite_done (over l.rest) l.byte-items l.byte-index (omega (arith, l.auto.byte-items)) refl) ∙ l.invariant
