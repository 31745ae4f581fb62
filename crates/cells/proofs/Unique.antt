-- Two outcomes that meet a contract of this crate, as its `ensures` line has it, are equal: every byte lent, and the place behind what was written.
use mathlib.Core.Path.{◌≡◌}
use Rattle.sequences.specs.OneOutcome.{Once}
use Rattle.text.specs.Written.{written_once}
use Rattle.cells.proofs.write_count.Kinds as write-count
use Rattle.cells.proofs.write_count.Reads as write-count-says
use Rattle.cells.proofs.write_depth.Kinds as write-depth
use Rattle.cells.proofs.write_depth.Reads as write-depth-says
use Rattle.cells.proofs.write_flow.Kinds as write-flow
use Rattle.cells.proofs.write_flow.Reads as write-flow-says
use Rattle.cells.proofs.write_depths.Kinds as write-depths
use Rattle.cells.proofs.write_depths.Reads as write-depths-says
use Rattle.cells.proofs.write_share.Kinds as write-share
use Rattle.cells.proofs.write_share.Reads as write-share-says

pub one_write_count : Once write-count.ps write-count.r write-count-says.Post (λ κs x y e f. (x ≡ y) × (e.0.now ≡ f.0.now))
one_write_count κs a x y e f p q = written_once p q

pub one_write_depth : Once write-depth.ps write-depth.r write-depth-says.Post (λ κs x y e f. (x ≡ y) × (e.0.now ≡ f.0.now))
one_write_depth κs a x y e f p q = written_once p q

pub one_write_flow : Once write-flow.ps write-flow.r write-flow-says.Post (λ κs x y e f. (x ≡ y) × (e.0.now ≡ f.0.now))
one_write_flow κs a x y e f p q = written_once p q

pub one_write_depths : Once write-depths.ps write-depths.r write-depths-says.Post (λ κs x y e f. (x ≡ y) × (e.0.now ≡ f.0.now))
one_write_depths κs a x y e f p q = written_once p q

pub one_write_share : Once write-share.ps write-share.r write-share-says.Post (λ κs x y e f. (x ≡ y) × (e.0.now ≡ f.0.now))
one_write_share κs a x y e f p q = written_once p q
