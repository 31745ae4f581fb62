-- Two outcomes that meet a contract of this crate, as its `ensures` lines have it, are equal: the answer and all that is lent to be written.
use mathlib.Core.Path.{◌≡◌, sym, ◌∙◌}
use Rattle.sequences.specs.OneOutcome.{Once}
use Rattle.writing.proofs.copy_last.Kinds as copy-last
use Rattle.writing.proofs.copy_last.Reads as copy-last-says
use Rattle.writing.proofs.write_result.Kinds as write-result
use Rattle.writing.proofs.write_result.Reads as write-result-says

pub one_copy_last : Once copy-last.ps copy-last.r copy-last-says.Post (λ κs x y e f. e.0.now ≡ f.0.now)
one_copy_last κs a x y e f p q = cc

pub one_write_result : Once write-result.ps write-result.r write-result-says.Post
    (λ κs x y e f. (e.1.1.1.1.1.1.0.now ≡ f.1.1.1.1.1.1.0.now) × (e.1.1.1.1.1.1.1.0.now ≡ f.1.1.1.1.1.1.1.0.now))
one_write_result κs a x y e f p q = (p.0 ∙ sym q.0, p.1 ∙ sym q.1)
