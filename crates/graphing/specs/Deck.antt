-- From the answer of a run that names a block and a ratio, with room enough for any deck, to the hydrograph of that block.
--     run-names    the run, where it was asked for what is named and has that room
--     few_left     it leaves no more ordinates than there is room for
--     hydrograph-accepted, hydrograph-refused    what is written by its answer
use Rattle.std.specs.Prelude.{ℕ, ◌-◌, ◌≤◌, ◌≡◌, Err, List, ◌++◌, length, take, replicate}
use Rattle.std.proofs.Common.{sym, ◌∙◌, arith, length-append}
use Rattle.std.proofs.Math.Path.{ap}
use Rattle.std.proofs.lemmas.List.{length-replicate}
use Rattle.std.proofs.Math.Seq.{take-append_seam}
use Rattle.meaning.specs.Lines.{lines_of}
use Rattle.meaning.specs.Fields.{Fixed}
use Rattle.meaning.specs.Records.{most_ordinates}
use Rattle.meaning.specs.Run.{BeforeTime, Done, named_ratio, named_flow, Outcome, outcome, work_size}
use Rattle.meaning.specs.Listing.{refused_line}
use Rattle.meaning.specs.Hydrograph.{hydrograph_text, hydrograph_in, hydrograph}
use Rattle.refusals.specs.declared.Refused as refusals
use Rattle.answers.specs.Answers as engine
use Rattle.answers.specs.Answers.{accepted_as, answer_is, outcome_is}
use Rattle.network.specs.Answers.{passed_accepted}
use Rattle.listing.specs.Sizes.{records_size}
use Rattle.listing.specs.Fitting.{done_fits}
use Rattle.listing.specs.Printed.{lent_room}
use Rattle.listing.specs.Naming.{Named, accepted-named, refused-shown, accepted-shown, same_outcome}
use Rattle.text.specs.Written.{Written}
use Rattle.finding.specs.Place.{block_at}
use Rattle.finding.specs.Said.{block_done}
use Rattle.graphing.specs.Texts.{minutes_at}

-- the front of what is filled up with zeros
front : (xs : List ℕ) (n all : ℕ) → n ≤ all → length (xs ++ replicate (all - n) 0) ≡ all → take n (xs ++ replicate (all - n) 0) ≡ xs
front xs n all few long =
    let own : length xs ≡ n = omega (arith, long, length-append xs (replicate (all - n) 0), length-replicate {A = ℕ} (all - n) 0) in
    ap (λ (k : ℕ). take k (xs ++ replicate (all - n) 0)) (sym own) ∙ take-append_seam xs (replicate (all - n) 0)

-- BY THE ANSWER OF THE ENGINE
module _ (deck : List ℕ) (named ratio : ℕ) (a : engine.Answer) {work ordinates records : List ℕ} where
  pub run-names : {block rate w q r : ℕ} → outcome_is a work ordinates records ≡ outcome deck block rate (record { work = w; ordinates = q; records = r })
      → block ≡ named → rate ≡ ratio → w ≡ work_size → q ≡ most_ordinates → r ≡ records_size → outcome_is a work ordinates records ≡ outcome deck named ratio lent_room
  run-names ran own theirs = same_outcome deck named ratio a (rw (own, theirs) at ran)

  module _ (ran : outcome_is a work ordinates records ≡ outcome deck named ratio lent_room) where
    answered : answer_is a ≡ (outcome deck named ratio lent_room).answer
    answered = ap (λ (o : Outcome). o.answer) ran

    module _ {nq blocks ratios : ℕ} (told : a ≡ accepted_as nq blocks ratios) where
      names : Named deck named ratio nq blocks ratios
      names = accepted-named deck named ratio nq blocks ratios (sym answered ∙ ap answer_is told)

      pub few_left : nq ≤ most_ordinates
      few_left = omega (arith, names.ordinates-are, (done_fits deck names.done).time.few_ordinates)

      -- the ordinates that the run leaves
      left : ordinates ≡ named_flow named (named_ratio ratio names.results) ++ replicate (most_ordinates - nq) 0
      left =
          let n = names in
          let s = n.passed.settles in
          let both : Done s.time s.results ≡ Done n.time n.results = sym s.done ∙ n.done in
          let times : s.time ≡ n.time = cc in
          let results : s.results ≡ n.results = cc in
          ap (λ (o : Outcome). o.ordinates) (ran ∙ passed_accepted deck named ratio lent_room n.passed) ∙ rw (times, results, n.ordinates-are)

      left-front : length ordinates ≡ most_ordinates → take nq ordinates ≡ named_flow named (named_ratio ratio names.results)
      left-front long = ap (take nq) left ∙ front (named_flow named (named_ratio ratio names.results)) nq most_ordinates few_left (ap length (sym left) ∙ long)

      accepted-text : length ordinates ≡ most_ordinates
          → hydrograph_text (minutes_at (block_at (lines_of deck) (BeforeTime Fixed) 1)) (take nq ordinates) ≡ hydrograph deck named ratio
      unfolding hydrograph
      accepted-text long =
          let n = names in
          let found = block_done deck n.time n.results 0 1 n.done n.some.1 (omega arith) (omega (arith, n.some.0)) in
          rw (found, left-front long) (sym (accepted-shown deck named ratio (hydrograph_in named) n))

      pub hydrograph-accepted : {minutes n behind : ℕ} {out next : List ℕ} → Written out 0 (hydrograph_text minutes (take n ordinates)) next behind
          → minutes ≡ minutes_at (block_at (lines_of deck) (BeforeTime Fixed) 1) → n ≡ nq → length ordinates ≡ most_ordinates → Written out 0 (hydrograph deck named ratio) next behind
      hydrograph-accepted text minutes-are as_many long = rw (minutes-are, as_many, accepted-text long) at text

    pub hydrograph-refused : {why : refusals.Refused} {n l behind : ℕ} {out next : List ℕ} → a ≡ Err why → Written out 0 (refused_line n l) next behind → n ≡ why.number → l ≡ why.line
        → Written out 0 (hydrograph deck named ratio) next behind
    unfolding hydrograph
    hydrograph-refused {why} told text same_number same_line =
        rw (same_number, same_line, ← refused-shown (hydrograph_in named) deck named ratio why.number why.line (sym answered ∙ ap answer_is told)) at text
