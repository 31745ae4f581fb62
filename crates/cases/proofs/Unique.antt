-- Two outcomes that meet a contract of this crate, as its `ensures` lines have it, are equal: of a text that is written, every byte lent and how many were written.
use mathlib.Core.Path.{◌≡◌, sym, ◌∙◌}
use Rattle.sequences.specs.OneOutcome.{Once}
use Rattle.text.specs.Written.{written_once}
use Rattle.cases.proofs.read_case.Kinds as read-case
use Rattle.cases.proofs.read_case.Reads as read-case-says
use Rattle.cases.proofs.write_case.Kinds as write-case
use Rattle.cases.proofs.write_case.Reads as write-case-says

pub one_read_case : Once read-case.ps read-case.r read-case-says.Post (λ κs x y e f. x ≡ y)
one_read_case κs a x y e f p q = p ∙ sym q

pub one_write_case : Once write-case.ps write-case.r write-case-says.Post (λ κs x y e f. (x ≡ y) × (e.0.now ≡ f.0.now))
one_write_case κs a x y e f p q = written_once p.0 q.0
