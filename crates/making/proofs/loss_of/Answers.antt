-- `making::loss_of` meets its contract: both values are within their limits, and each becomes its depth.
use mathlib.Core.Path.{◌≡◌, ◌∙◌}
use mathlib.Core.List.{[]}
use native.Mathlib.Omega.{arith}
use Prim.Native.Nat.{◌*◌}
use Rattle.meaning.specs.Records.{LU}
use Rattle.meaning.specs.Water.{ten_thousandth}
use Rattle.meaning.specs.Blocks.{initial_loss, uniform_loss}
use Rattle.blocks.specs.Cards.{block_of}
use Rattle.making.specs.Kinds.{loss_is}
use Rattle.making.proofs.loss_of.Goals as goal

pub depth_of-initial-requires : goal.depth_of-initial-requires
depth_of-initial-requires c = omega (arith, c.value_at.ensures [], (c.requires.cards LU).high 0)

pub uniform_loss-uniform-requires : goal.uniform_loss-uniform-requires
uniform_loss-uniform-requires c = let p = c.requires in omega (arith, c.value_at-2.ensures [], (p.cards LU).high 1, p.time.few-minutes)

pub returns : goal.returns
returns c = λ name.
    let x = c.args in
    let b = block_of name x.cards.now in
    let initial : c.depth_of-initial.result.0 ≡ initial_loss b * ten_thousandth = omega (arith, c.depth_of-initial.ensures, c.value_at.ensures name) in
    let uniform : c.uniform_loss-uniform.result.0 ≡ x.time.minutes * uniform_loss b = c.uniform_loss-uniform.ensures ∙ rw (c.value_at-2.ensures name) in
    loss_is _ _ _ initial uniform
