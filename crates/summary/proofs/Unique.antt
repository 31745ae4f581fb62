-- Two outcomes that meet a contract of this crate, as its `ensures` lines have it, are equal.
use mathlib.Core.Path.{◌≡◌}
use Rattle.sequences.specs.OneOutcome.{Once}
use Rattle.summary.proofs.none.Kinds as none
use Rattle.summary.proofs.none.Reads as none-says
use Rattle.summary.proofs.summarize.Kinds as summarize
use Rattle.summary.proofs.summarize.Reads as summarize-says

pub one_none : Once none.ps none.r none-says.Post (λ κs x y e f. x ≡ y)
one_none κs a x y e f p q = cc

pub one_summarize : Once summarize.ps summarize.r summarize-says.Post (λ κs x y e f. x ≡ y)
one_summarize κs a x y e f p q = cc
