-- By the total, and where there is one by the pattern.
use Prim.Native.Nat.{ℕ, ◌<◌}
use mathlib.Core.Path.{◌≡◌, sym, ◌∙◌, ap}
use mathlib.Core.List.{List}
use native.Mathlib.Omega.{arith}
use Rattle.meaning.specs.Words.{◌=?◌}
use Rattle.meaning.specs.Water.{sum_of, rain_of}
use Rattle.meaning.specs.Blocks.{storm_total}
use Rattle.blocks.specs.Meant.{time_is}
use Rattle.blocks.specs.Cards.{block_of}
use Rattle.shaping.specs.Patterns.{no_total, some_total}
use Rattle.shaping.proofs.is_patternless.Goals as goal

pub returns-then-total-ne0 : goal.returns-then-total-ne0
returns-then-total-ne0 c = λ name.
    let x = c.args in
    let total : 0 < storm_total (block_of name x.cards.now) = omega (arith, c.value_at-total.ensures name, c.if-total-ne0.true) in
    c.is_dry.ensures
    ∙ ap (λ (values : List ℕ). sum_of (rain_of values x.time.ordinates) =? 0) (c.values.ensures name)
    ∙ sym (some_total (time_is x.time) (block_of name x.cards.now) total)

pub returns-else-total-ne0 : goal.returns-else-total-ne0
returns-else-total-ne0 c = λ name.
    let x = c.args in
    let none : storm_total (block_of name x.cards.now) ≡ 0 = omega (arith, c.value_at-total.ensures name, c.if-total-ne0.false) in
    rw c.if-total-ne0.false (sym (no_total (time_is x.time) (block_of name x.cards.now) none))
