-- Two outcomes that meet a contract of this crate, as its `ensures` line has it, are equal: every byte lent, and how many were written.
use mathlib.Core.Path.{◌≡◌}
use Rattle.sequences.specs.OneOutcome.{Once}
use Rattle.text.specs.Written.{written_once}
use Rattle.printing.proofs.write_listing.Kinds as write-listing
use Rattle.printing.proofs.write_listing.Reads as write-listing-says
use Rattle.printing.proofs.write_refusal.Kinds as write-refusal
use Rattle.printing.proofs.write_refusal.Reads as write-refusal-says

pub one_write_listing : Once write-listing.ps write-listing.r write-listing-says.Post (λ κs x y e f. (x ≡ y) × (e.0.now ≡ f.0.now))
one_write_listing κs a x y e f p q = written_once p q

pub one_write_refusal : Once write-refusal.ps write-refusal.r write-refusal-says.Post (λ κs x y e f. (x ≡ y) × (e.0.now ≡ f.0.now))
one_write_refusal κs a x y e f p q = written_once p q
