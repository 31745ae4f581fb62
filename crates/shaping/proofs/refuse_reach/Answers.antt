-- `shaping::refuse_reach` meets its contract: the reach's numbers are within their limits.
use mathlib.Core.Path.{◌∙◌}
use mathlib.Core.List.{[]}
use native.Mathlib.Omega.{arith}
use Rattle.blocks.specs.Meant.{time_is}
use Rattle.blocks.specs.Cards.{block_of}
use Rattle.shaping.specs.Limits.{reach_small}
use Rattle.shaping.proofs.refuse_reach.Goals as goal

pub is_unroutable-unroutable-requires : goal.is_unroutable-unroutable-requires
is_unroutable-unroutable-requires c =
    let s = c in
    let small = reach_small (time_is s.args.time) (block_of [] s.args.cards.now) s.requires.time s.requires.cards in
    omega (arith, small, c.reach_of-reach.ensures [])

pub returns : goal.returns
returns c = λ name.
    let e = c.reach_of-reach.ensures name in
    c.refuse_if.ensures ∙ rw (c.is_unroutable-unroutable.ensures, e.0, e.1, e.2)
