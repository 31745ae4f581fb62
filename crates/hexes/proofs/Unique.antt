-- Two outcomes that meet the contract of `write_bytes`, as its `ensures` lines have it, are equal: every byte lent, and the place behind what was written.
use mathlib.Core.Path.{◌≡◌}
use Rattle.sequences.specs.OneOutcome.{Once}
use Rattle.text.specs.Written.{written_once}
use Rattle.hexes.proofs.write_bytes.Kinds as write_bytes
use Rattle.hexes.proofs.write_bytes.Reads as write-bytes-says

pub one_write_bytes : Once write_bytes.ps write_bytes.r write-bytes-says.Post (λ κs x y e f. (x ≡ y) × (e.0.now ≡ f.0.now))
one_write_bytes κs a x y e f p q = written_once p.0 q.0
