-- Two outcomes that meet the contract of this crate, as its `ensures` line has it, are equal: the four columns.
use mathlib.Core.Path.{◌≡◌, sym, ◌∙◌}
use mathlib.Core.List.{[]}
use Rattle.sequences.specs.OneOutcome.{Once}
use Rattle.columns.proofs.fill_columns.Kinds as fill-columns
use Rattle.columns.proofs.fill_columns.Reads as fill-columns-says

pub one_fill-columns : Once fill-columns.ps fill-columns.r fill-columns-says.Post
    (λ κs x y e f. (e.0.now ≡ f.0.now) × (e.1.0.now ≡ f.1.0.now) × (e.1.1.0.now ≡ f.1.1.0.now) × (e.1.1.1.0.now ≡ f.1.1.1.0.now))
one_fill-columns κs a x y e f p q =
    ((p []).rains_are ∙ sym (q []).rains_are, (p []).losses-are ∙ sym (q []).losses-are, (p []).excesses_are ∙ sym (q []).excesses_are, (p []).sums-are ∙ sym (q []).sums-are)
