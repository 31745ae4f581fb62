-- `columns::fill_columns` meets its contract: the storm, the unit ordinates and the rain listed are the block's own, and so is what is made of them.
use Prim.Native.Nat.{ℕ}
use mathlib.Core.Path.{◌≡◌, sym, ap, subst}
use mathlib.Core.List.{List, []}
use native.Mathlib.Omega.{arith}
use borrow.Author.Rules.{rules}
use lib.ListN.{length}
use Rattle.meaning.specs.Records.{UI}
use Rattle.meaning.specs.Blocks as blocks
use Rattle.meaning.specs.Blocks.{Block, rain, excess}
use Rattle.blocks.specs.Meant.{time_is}
use Rattle.blocks.specs.Cards.{block_of}
use Rattle.blocks.specs.Values.{values_few}
use Rattle.meaning.specs.Water.{rain_of}
use Rattle.excess.specs.Storms.{storm_fall, storm_excess}
use Rattle.runoff.specs.Storm.{StormWithin}
use Rattle.making.specs.Kinds.{storm-read}
use Rattle.columns.specs.Columns.{rains-made, excesses_made, losses_made, sums_made, left_within, length-block-rain, length-block-excess}
use Rattle.columns.proofs.fill_columns.Statement.{statement}
use Rattle.columns.proofs.fill_columns.Tie as tie

-- WHAT WAS READ: the storm, the unit ordinates, the rain listed
abbrev Got : Type 0
Got = tie.After-values-listed

module _ (c : Got) where
  abbrev τ : blocks.Time
  τ = time_is c.args.time

  abbrev block : List ℕ → Block
  block name = block_of name c.args.cards.now

  within : StormWithin c.values-units.result.now c.values-listed.result.now c.storm_of-storm.result τ.ordinates
  within =
      let read = c.requires.0 in
      let few = values_few UI [] c.args.cards.now (omega arith) read.words.long in
      rw (c.values-units.ensures [], c.values-listed.ensures [], c.storm_of-storm.ensures []) (storm-read τ (block []) read.time read.cards few)

  -- in as many words as there are ordinates
  rains_are : (name : List ℕ) {n : ℕ} {xs : List ℕ} → n ≡ τ.ordinates → xs ≡ storm_fall c.storm_of-storm.result (rain_of c.values-listed.result.now n)
      → xs ≡ rain τ (block name)
  rains_are name =
      rains-made τ (block name) c.storm_of-storm.result c.values-units.result.now c.values-listed.result.now
      (c.storm_of-storm.ensures name) (c.values-units.ensures name) (c.values-listed.ensures name)

  excesses_are : (name : List ℕ) {n : ℕ} {xs : List ℕ} → n ≡ τ.ordinates → xs ≡ storm_excess c.storm_of-storm.result (rain_of c.values-listed.result.now n)
      → xs ≡ excess τ (block name)
  excesses_are name =
      excesses_made τ (block name) c.storm_of-storm.result c.values-units.result.now c.values-listed.result.now
      (c.storm_of-storm.ensures name) (c.values-units.ensures name) (c.values-listed.ensures name)

storm-rain-requires : tie.Need-storm_rain-requires
storm-rain-requires c κs =
    let s = c.before.before.before.before.before.before.before.before.before in
    let w = within c.before in
    ((omega (arith, w.intervals_up, s.requires.1.0), w.ratio_up), (w.rains_up, w.total_up))

storm-excess-requires : tie.Need-storm_excess-requires
storm-excess-requires c κs =
    let s = c.before.before.before.before.before.before.before.before.before.before.before.before.before in
    let w = within c.before.before.before.before.before in
    ((omega (arith, w.intervals_up, s.requires.1.2), w.ratio_up), (w.rains_up, w.total_up))

find-losses-requires : tie.Need-find_losses-requires
find-losses-requires c κs =
    let s = c in
    let got = c.before.before.before.before.before.before.before.before.before in
    let fell = c.storm_rain in
    let left = c.storm_excess in
    let rains = rains_are got [] s.requires.1.0 fell.ensures in
    let excesses = excesses_are got [] s.requires.1.2 left.ensures in (
      (omega (arith, ap length rains, length-block-rain (τ got) (block got []), s.requires.1.1), omega (arith, ap length excesses, length-block-excess (τ got) (block got []), s.requires.1.1)),
      λ (k : ℕ). rw (rains, excesses) (left_within (τ got) (block got []) k),
    )

runoff-into-requires : tie.Need-runoff_into-requires
runoff-into-requires c κs =
    let got = c.before.before.before.before.before.before.before.before.before.before.before.before.before in
    subst (StormWithin _ _ _) (sym got.requires.1.3) (within got)

returns : tie.Need-returns
returns c = λ name.
    let got = c.before.before.before.before.before.before.before.before.before.before.before.before.before.before.before.before in
    let rains = rains_are got name c.requires.1.0 c.storm_rain.ensures in
    let excesses = excesses_are got name c.requires.1.2 c.storm_excess.ensures in
    record {
      rains_are = rains;
      excesses_are = excesses;
      losses-are = losses_made (τ got) (block got name) rains excesses c.requires.1.1 c.find_losses.ensures;
      sums-are =
          sums_made (τ got) (block got name) got.storm_of-storm.result got.values-units.result.now got.values-listed.result.now
          (got.storm_of-storm.ensures name) (got.values-units.ensures name) (got.values-listed.ensures name) c.requires.1.3 c.runoff_into.ensures;
    }

pub fill_columns_spec : {M : Type 1} → statement M
fill_columns_spec =
    tie.close
    (tie.spec
    (λ c κs. search rules) (λ c κs. search rules) (λ c κs. search rules) storm-rain-requires storm-excess-requires find-losses-requires runoff-into-requires
    (λ c. search rules) (λ c. search rules) (λ c. search rules) (λ c. search rules) returns)
