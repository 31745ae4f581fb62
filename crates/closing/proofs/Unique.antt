-- Two outcomes that meet a contract of this crate, as its `ensures` line has it, are equal: the answer and all that is lent.
use mathlib.Core.Path.{◌≡◌, sym, ◌∙◌}
use mathlib.Core.List.{[]}
use Rattle.sequences.specs.OneOutcome.{Once}
use Rattle.closing.proofs.close_block.Kinds as close_block
use Rattle.closing.proofs.close_block.Reads as close-block-says

pub one_close_block : Once close_block.ps close_block.r close-block-says.Post (λ κs x y e f. (x ≡ y) × (e.0.now ≡ f.0.now))
one_close_block κs a x y e f p q = ((p []).answer ∙ sym (q []).answer, (p []).words ∙ sym (q []).words)
