-- By whether the record is there.
use Prim.Native.Nat.{◌≤◌}
use mathlib.Core.Path.{◌≡◌, refl, ◌∙◌, ap}
use mathlib.Core.Bool.{Bool, true, false}
use mir.Val.{bool_byte}
use native.Mathlib.Omega.{arith}
use Rattle.kinds.specs.Masks.{bit_of}
use Rattle.kinds.proofs.bit_at.Goals as goal

bit_is : (t : Bool) → bool_byte t ≡ bit_of t
bit_is true = refl
bit_is false = refl

low : (t : Bool) → bool_byte t ≤ 1
low true = omega arith
low false = omega arith

pub returns : goal.returns
returns c =
    let t = c.is_given.result in
    (λ name. c.from.ensures ∙ bit_is t ∙ ap bit_of (c.is_given.ensures name), omega (arith, c.from.ensures, low t))
