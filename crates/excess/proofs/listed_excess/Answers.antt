-- `excess::listed_excess` meets its contract: under 1.00 the rain is what is listed; else it is listed, put under the ratio and lost, each in the place of the last.
use mathlib.Core.Path.{sym, ap, ◌∙◌}
use lib.ListN.{length}
use Rattle.meaning.specs.Water.{rain_of}
use Rattle.storms.specs.Rains.{rain-sum}
use Rattle.excess.specs.Losses.{excess_by}
use Rattle.excess.specs.Storms.{rated-whole}
use Rattle.excess.proofs.listed_excess.Goals as goal

pub returns-then-ratio-eq100 : goal.returns-then-ratio-eq100
returns-then-ratio-eq100 c =
    let x = c.args in
    let whole = c.if-ratio-eq100.true in
    c.excess_into.ensures ∙ rw whole (ap (excess_by x.loss) (sym (rated-whole (rain_of x.rains.now (length x.excess.now)))))

pub rate-requires : goal.rate-requires
rate-requires c =
    let s = c in
    let sum = rain-sum s.args.rains.now s.requires.all_up_to (length s.args.excess.now) s.requires.excess_len_bound.0 in
    (s.requires.excess_len_bound.1, rw c.list_rain.ensures.rain_after sum)

pub returns : goal.returns
returns c =
    let lost = c.lose in
    let under = c.rate in
    let listed = c.list_rain in
    lost.ensures ∙ rw (under.ensures, listed.ensures.rain_after)
