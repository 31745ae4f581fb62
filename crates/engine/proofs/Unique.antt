-- Two outcomes of a run that meet its contract, as its `ensures` line has it, are equal: the answer and every word and byte lent.
use mathlib.Core.Path.{◌≡◌, sym, ap, ◌∙◌}
use Rattle.meaning.specs.Run.{Outcome}
use Rattle.sequences.specs.OneOutcome.{Once}
use Rattle.blocks.specs.Meant.{ratios_is}
use Rattle.answers.specs.Answers.{answer-told}
use Rattle.engine.proofs.run.Kinds as run
use Rattle.engine.proofs.run.Reads as run-says
use Rattle.engine.proofs.run_listed.Kinds as run-listed
use Rattle.engine.proofs.run_listed.Reads as run-listed-says

-- deck, named, ratio, work, ordinates, records
pub run-once : Once run.ps run.r run-says.Post
    (λ κs x y e f.
    (x ≡ y) × (e.1.1.1.0.now ≡ f.1.1.1.0.now) × (e.1.1.1.1.0.now ≡ f.1.1.1.1.0.now) × (e.1.1.1.1.1.0.now ≡ f.1.1.1.1.1.0.now))
run-once κs a x y e f p q =
    let same = p ∙ sym q in
    (answer-told x y (ap (λ (o : Outcome). o.answer) same), ap (λ (o : Outcome). o.work) same, ap (λ (o : Outcome). o.ordinates) same, ap (λ (o : Outcome). o.records) same)

-- and the ratios, as the list that they mean
pub run-listed-once : Once run-listed.ps run-listed.r run-listed-says.Post
    (λ κs x y e f.
    (x.answer ≡ y.answer) × (ratios_is x.ratios ≡ ratios_is y.ratios) × (e.1.1.1.0.now ≡ f.1.1.1.0.now) × (e.1.1.1.1.0.now ≡ f.1.1.1.1.0.now)
    × (e.1.1.1.1.1.0.now ≡ f.1.1.1.1.1.0.now))
run-listed-once κs a x y e f p q =
    let same = p.0 ∙ sym q.0 in (
      answer-told x.answer y.answer (ap (λ (o : Outcome). o.answer) same),
      p.1.0 ∙ sym q.1.0,
      ap (λ (o : Outcome). o.work) same,
      ap (λ (o : Outcome). o.ordinates) same,
      ap (λ (o : Outcome). o.records) same,
    )
