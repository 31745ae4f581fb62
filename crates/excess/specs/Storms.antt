-- The storm of a block: what is made of the rain listed.
--     rain_by          the rain: what is listed, or a total over it
--     rated           the rain under a ratio; rated-whole: under 1.00 it is the rain
--     storm_fall       the two together; storm_excess: and what is left of it; most_excess: at most so much in an interval
--     length_fall, fall_up    how many rains there are, and how large
--     length-storm, storm_up, storm-dry    how many excesses there are, how large, and that there are none behind the last rain listed
use Rattle.std.specs.Prelude.{ℕ, Option, None, Some, ◌*◌, ◌≤◌, ◌≡◌, refl, List, ◌++◌, length, replicate}
use Rattle.std.proofs.Common.{ap, ◌∙◌, arith}
use Rattle.sequences.specs.Bounds.{AllUpTo}
use Rattle.sequences.specs.Sums.{sum-dry}
use Rattle.sequences.specs.Cuts.{length_cut, cut-dry, cut_same, cut-whole, cut_up, div_rises}
use Rattle.meaning.specs.Water.{sum_of, cut_of}
use Rattle.units.specs.declared.Depth.{Depth}
use Rattle.storms.specs.Rains.{total_over}
use Rattle.excess.specs.declared.Storm.{Storm}
use Rattle.excess.specs.Losses.{excess_by, length-excess, excess_up, excess-dry}

-- a total is at most 100 inches
abbrev pub TotalWithin : Option Depth → Type 0
TotalWithin None = Unit
TotalWithin (Some total) = total.0 ≤ 60_000_000

-- what a total that is given is within
pub given_within : {total : Option Depth} {depth : Depth} → total ≡ Some depth → TotalWithin total → depth.0 ≤ 60_000_000
given_within e h = rw e at h

abbrev pub rain_by : Option Depth → List ℕ → List ℕ
rain_by None listed = listed
rain_by (Some total) listed = total_over total listed

-- of 100, since a ratio is in hundredths
abbrev pub rated : ℕ → List ℕ → List ℕ
rated ratio rain = cut_of ratio 100 rain

pub rated-whole : (rain : List ℕ) → rated 100 rain ≡ rain
rated-whole rain = cut_same 100 rain (omega arith)

abbrev pub storm_fall : Storm → List ℕ → List ℕ
storm_fall storm listed = rated storm.ratio (rain_by storm.total listed)

abbrev pub storm_excess : Storm → List ℕ → List ℕ
storm_excess storm listed = excess_by storm.loss (storm_fall storm listed)

length_by : (total : Option Depth) (listed : List ℕ) → length (rain_by total listed) ≡ length listed
length_by None listed = refl
length_by (Some total) listed = length_cut total.0 (sum_of listed) listed

rain_by_up : (total : Option Depth) (listed : List ℕ) → TotalWithin total → AllUpTo 12_000_000 listed → AllUpTo 60_000_000 (rain_by total listed)
rain_by_up None listed within up k = omega (arith, up k)
rain_by_up (Some total) listed within up k = omega (arith, cut-whole total.0 listed k, within)

rain_by_dry : (total : Option Depth) (listed : List ℕ) (k : ℕ) → rain_by total (listed ++ replicate k 0) ≡ rain_by total listed ++ replicate k 0
rain_by_dry None listed k = refl
rain_by_dry (Some total) listed k =
    ap (λ (s : ℕ). cut_of total.0 s (listed ++ replicate k 0)) (sum-dry listed k) ∙ cut-dry total.0 (sum_of listed) listed k

-- 100 inches at 9.99, and a unit more where the floors fall so
abbrev pub most_excess : ℕ
most_excess = 599_400_001

rated_up : (ratio : ℕ) (rain : List ℕ) → ratio ≤ 999 → AllUpTo 60_000_000 rain → AllUpTo most_excess (rated ratio rain)
rated_up ratio rain small up k =
    let most : ratio * 60_000_000 ≤ 59_940_000_000 = omega arith in
    omega (arith, cut_up ratio 100 60_000_000 rain (omega arith) up k, div_rises 100 most)

module _ (storm : Storm) (listed : List ℕ) where
  abbrev rain : List ℕ
  rain = rain_by storm.total listed

  pub length_fall : length (storm_fall storm listed) ≡ length listed
  length_fall = length_cut storm.ratio 100 rain ∙ length_by storm.total listed

  pub fall_up : TotalWithin storm.total → storm.ratio ≤ 999 → AllUpTo 12_000_000 listed → AllUpTo most_excess (storm_fall storm listed)
  fall_up within small up = rated_up storm.ratio rain small (rain_by_up storm.total listed within up)

  pub length-storm : length (storm_excess storm listed) ≡ length listed
  length-storm = length-excess storm.loss (storm_fall storm listed) ∙ length_fall

  pub storm_up : TotalWithin storm.total → storm.ratio ≤ 999 → AllUpTo 12_000_000 listed → AllUpTo most_excess (storm_excess storm listed)
  storm_up within small up =
      excess_up storm.loss (storm_fall storm listed) most_excess (fall_up within small up)

  pub storm-dry : (k : ℕ) → storm_excess storm (listed ++ replicate k 0) ≡ storm_excess storm listed ++ replicate k 0
  storm-dry k =
      ap (λ (l : List ℕ). excess_by storm.loss (rated storm.ratio l)) (rain_by_dry storm.total listed k)
      ∙ ap (excess_by storm.loss) (cut-dry storm.ratio 100 rain k)
      ∙ excess-dry storm.loss (rated storm.ratio rain) k
