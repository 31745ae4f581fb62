-- `excess::storm_rain` meets its contract: what is listed adds up to no more than may be cut by a ratio.
use lib.ListN.{length}
use Rattle.storms.specs.Rains.{rain-sum}
use Rattle.excess.proofs.storm_rain.Goals as goal

pub rate-requires : goal.rate-requires
rate-requires c =
    let sum = rain-sum c.args.rains.now c.requires.all_up_to (length c.args.rain.now) c.requires.rain_len_bound.0 in
    (c.requires.rain_len_bound.1, rw c.list_rain.ensures.rain_after sum)
