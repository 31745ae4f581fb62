-- `storms::storm_into` meets its contract: the pattern is what is listed, and its sum the one to divide by, where there is any.
use mathlib.Core.Path.{◌≡◌, ◌∙◌}
use native.Mathlib.Omega.{arith}
use lib.ListN.{length}
use Rattle.meaning.specs.Water.{sum_of, rain_of}
use Rattle.storms.specs.Rains.{rain-sum, dry-total}
use Rattle.storms.proofs.storm_into.Goals as goal

pub cut-requires : goal.cut-requires
cut-requires c =
    let s = c in
    let listed = c.list_rain-sum.ensures in
    let all = rain-sum s.args.rains.now s.requires.all_up_to (length s.args.rain.now) s.requires.rain_len_bound.0 in
    record { some = omega (arith, c.if-sum-gt0.true); share = omega (arith, s.requires.rain_len_bound.1); sum = rw listed.rain_after all }

pub returns-then-sum-gt0 : goal.returns-then-sum-gt0
returns-then-sum-gt0 c =
    let listed = c.list_rain-sum.ensures in
    c.cut.ensures ∙ rw (listed.rain_after, listed.added)

pub returns-else-sum-gt0 : goal.returns-else-sum-gt0
returns-else-sum-gt0 c =
    let x = c.args in
    let listed = c.list_rain-sum.ensures in
    let none : sum_of (rain_of x.rains.now (length x.rain.now)) ≡ 0 = omega (arith, c.if-sum-gt0.false, listed.added) in
    listed.rain_after ∙ dry-total x.total (rain_of x.rains.now (length x.rain.now)) none
