-- `excess::rate_total` meets its contract: the rain of a total adds up to no more than it, so it may be cut by the ratio.
use mathlib.Core.Path.{refl, ◌∙◌}
use native.Mathlib.Omega.{arith}
use lib.ListN.{length}
use Rattle.sequences.specs.Cuts.{whole_up}
use Rattle.meaning.specs.Water.{rain_of}
use Rattle.excess.proofs.rate_total.Goals as goal

pub rate-requires : goal.rate-requires
rate-requires c =
    let s = c in
    let most = whole_up s.args.total.0 (rain_of s.args.rains.now (length s.args.rain.now)) in
    (s.requires.rain_len_bound.1, rw c.storm_into.ensures (omega (arith, most, s.requires.rain_len_bound.2)))

pub returns : goal.returns
returns c = c.rate.ensures ∙ rw c.storm_into.ensures refl
