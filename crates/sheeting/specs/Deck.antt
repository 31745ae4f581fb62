-- From the answer of a run that names a block and a ratio, with room enough for any deck, to the sheet of that block.
--     accepted-sheet    where the run is accepted, the sheet is that of the block of the number, where it is found
--     sheet-accepted, sheet-refused    by the engine's answer
use Rattle.std.specs.Prelude.{ℕ, ◌-◌, ◌<◌, ◌≡◌, Err, List}
use Rattle.std.proofs.Math.Path.{sym, ap}
use Rattle.std.proofs.Common.{◌∙◌, arith}
use Rattle.std.proofs.Math.ListN.{length}
use Rattle.meaning.specs.Lines.{lines_of}
use Rattle.meaning.specs.Fields.{Fixed}
use Rattle.meaning.specs.Records.{most_ordinates}
use Rattle.meaning.specs.Run.{BeforeTime, named_ratio, block_count, Accepted, outcome, work_size}
use Rattle.meaning.specs.Listing.{refused_line}
use Rattle.meaning.specs.Sheet.{sheet_in, sheet}
use Rattle.refusals.specs.declared.Refused as refusals
use Rattle.answers.specs.Answers as engine
use Rattle.answers.specs.Answers.{accepted_as, answer_is, outcome_is}
use Rattle.network.specs.WorkedBlocks.{as_many_under}
use Rattle.network.proofs.WorkedBlocks.{done_as_said}
use Rattle.listing.specs.Sizes.{records_size}
use Rattle.listing.specs.Printed.{lent_room}
use Rattle.listing.specs.Naming.{number_of, Named, accepted-named, refused-shown, accepted-shown, said}
use Rattle.finding.specs.Place.{block_at}
use Rattle.finding.specs.Said.{block_done}
use Rattle.sheeting.specs.Texts.{sheet_at}

module _ (deck : List ℕ) (named ratio : ℕ) where
  named-sheet : {nq blocks ratios : ℕ} → Named deck named ratio nq blocks ratios
      → sheet deck named ratio ≡ sheet_at (number_of ratio ratios - 1) (block_at (lines_of deck) (BeforeTime Fixed) (number_of named blocks))
  unfolding sheet named_ratio
  named-sheet n =
      let at : number_of ratio (length n.results) - 1 < length n.results = omega (arith, n.place.0, n.place.1) in
      let found = block_done deck n.time n.results (number_of ratio (length n.results) - 1) (number_of named (block_count n.results)) n.done at n.block.0 n.block.1 in
      let same = as_many_under (done_as_said deck n.time n.results n.done) (number_of ratio (length n.results) - 1) at in
      accepted-shown deck named ratio (sheet_in named) n ∙ rw (← n.blocks-are, ← n.ratios-are, found, same)

  pub accepted-sheet : (nq blocks ratios : ℕ) → (outcome deck named ratio lent_room).answer ≡ Accepted nq blocks ratios
      → sheet deck named ratio ≡ sheet_at (number_of ratio ratios - 1) (block_at (lines_of deck) (BeforeTime Fixed) (number_of named blocks))
  accepted-sheet nq blocks ratios h = named-sheet (accepted-named deck named ratio nq blocks ratios h)

-- BY THE ANSWER OF THE ENGINE
module _ (deck : List ℕ) (named ratio : ℕ) (a : engine.Answer) {work ordinates records : List ℕ} {w q r : ℕ}
    (e : outcome_is a work ordinates records ≡ outcome deck named ratio (record { work = w; ordinates = q; records = r }))
    (words : w ≡ work_size) (flows : q ≡ most_ordinates) (bytes : r ≡ records_size) where
  pub sheet-accepted : {nq blocks ratios : ℕ} → a ≡ accepted_as nq blocks ratios → (block rate : ℕ) → block ≡ number_of named blocks → rate ≡ number_of ratio ratios
      → sheet_at (rate - 1) (block_at (lines_of deck) (BeforeTime Fixed) block) ≡ sheet deck named ratio
  sheet-accepted {nq} {blocks} {ratios} told block rate own theirs =
      rw (own, theirs) (sym (accepted-sheet deck named ratio nq blocks ratios (sym (said deck named ratio a e words flows bytes) ∙ ap answer_is told)))

  pub sheet-refused : {why : refusals.Refused} → a ≡ Err why → refused_line why.number why.line ≡ sheet deck named ratio
  unfolding sheet
  sheet-refused {why} told =
      sym (refused-shown (sheet_in named) deck named ratio why.number why.line (sym (said deck named ratio a e words flows bytes) ∙ ap answer_is told))
