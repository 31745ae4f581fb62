-- Two outcomes that meet the contract of this crate, as its `ensures` line has it, say the same of the line: what it does where the reading stands.
use mathlib.Core.Path.{◌≡◌, sym, ◌∙◌}
use Rattle.sequences.specs.OneOutcome.{OnceAt}
use Rattle.sorting.specs.Sorted.{sorted_event}
use Rattle.sorting.proofs.sort_line.Kinds as sort-line
use Rattle.sorting.proofs.sort_line.Reads as sort-line-says

pub one_sort_line : OnceAt sort-line.ps sort-line.r sort-line-says.Post
    (λ κs a x y e f. sorted_event x a.0 a.1.0.now a.1.1.0.now ≡ sorted_event y a.0 a.1.0.now a.1.1.0.now)
one_sort_line κs a x y e f p q = sym p.event ∙ q.event
