-- Two outcomes that meet a contract of this crate, as its `ensures` line has it, are equal.
use mathlib.Core.Path.{◌≡◌}
use Rattle.sequences.specs.OneOutcome.{Once}
use Rattle.results.proofs.record_at.Kinds as record-at
use Rattle.results.proofs.record_at.Reads as record-at-says

pub one_record_at : Once record-at.ps record-at.r record-at-says.Post (λ κs x y e f. e.0.now ≡ f.0.now)
one_record_at κs a x y e f p q = cc
