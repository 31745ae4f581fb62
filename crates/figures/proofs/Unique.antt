-- Two outcomes that meet a contract of this crate, as its `ensures` line has it, are equal: every byte lent, and the place behind what was written.
use mathlib.Core.Path.{◌≡◌}
use Rattle.sequences.specs.OneOutcome.{Once}
use Rattle.text.specs.Written.{written_once}
use Rattle.figures.proofs.write_line.Kinds as write-line
use Rattle.figures.proofs.write_line.Reads as write-line-says

pub one_write_line : Once write-line.ps write-line.r write-line-says.Post (λ κs x y e f. (x ≡ y) × (e.0.now ≡ f.0.now))
one_write_line κs a x y e f p q = written_once p q
