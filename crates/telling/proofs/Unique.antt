-- Two outcomes that meet a contract of this crate, as its `ensures` line has it, are equal.
use mathlib.Core.Path.{◌≡◌, sym, ◌∙◌}
use Rattle.sequences.specs.OneOutcome.{Once}
use Rattle.telling.proofs.last_place.Kinds as last-place
use Rattle.telling.proofs.last_place.Reads as last-place-says
use Rattle.telling.proofs.last_area.Kinds as last-area
use Rattle.telling.proofs.last_area.Reads as last-area-says
use Rattle.telling.proofs.summarize_last.Kinds as summarize-last
use Rattle.telling.proofs.summarize_last.Reads as summarize-last-says

pub one_last_place : Once last-place.ps last-place.r last-place-says.Post (λ κs x y e f. x ≡ y)
one_last_place κs a x y e f p q = p ∙ sym q

pub one_last_area : Once last-area.ps last-area.r last-area-says.Post (λ κs x y e f. x ≡ y)
one_last_area κs a x y e f p q = p ∙ sym q

pub one_summarize_last : Once summarize-last.ps summarize-last.r summarize-last-says.Post (λ κs x y e f. x ≡ y)
one_summarize_last κs a x y e f p q = p ∙ sym q
