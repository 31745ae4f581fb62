-- Two outcomes that meet the contract of this crate, as its `ensures` lines have it, are equal: the bytes after, and the place behind the text.
use mathlib.Core.Path.{◌≡◌}
use Rattle.sequences.specs.OneOutcome.{Once}
use Rattle.text.specs.Written.{written_once}
use Rattle.reasons.proofs.reason_line.Kinds as reason-line
use Rattle.reasons.proofs.reason_line.Reads as reason-line-says

pub one_reason-line : Once reason-line.ps reason-line.r reason-line-says.Post (λ κs x y e f. (x ≡ y) × (e.1.1.1.0.now ≡ f.1.1.1.0.now))
one_reason-line κs a x y e f p q = written_once p.0 q.0
