-- `stack::join_pair` meets its contract: of the 600 words lent the lower 300 come back with the sum in front.
use Prim.Native.Nat.{ℕ, ◌+◌, ◌-◌, ◌*◌}
use mathlib.Core.Path.{◌≡◌, ap, ◌∙◌}
use native.Mathlib.Omega.{arith}
use lib.ListN.{get_or}
use Rattle.sequences.specs.Parts.{part, length_part}
use Rattle.meaning.specs.Records.{most_ordinates}
use Rattle.stack.specs.Joining.{pair_stack, pair_words}
use Rattle.stack.specs.Limits.{pair_within, pair_areas}
use Rattle.stack.proofs.join_pair.Goals as goal

pub add_from-requires : goal.add_from-requires
add_from-requires c =
    let s = c in
    let x = s.args in
    let w = x.work.now in
    let p = most_ordinates * (x.stack.depth - 2) in
    let lent : p + (2 * most_ordinates) - p ≡ (2 * most_ordinates) = omega arith in
    let long = length_part p (p + (2 * most_ordinates) - p) w (omega arith) in
    let low = pair_within 24_000_000_000_000 x.stack x.nq w s.requires.le_depth.0 s.requires.le_depth.1 s.requires.tops in record { n_le_from = omega arith; by_index = λ (k : ℕ) h. omega (arith, low k h, ap (λ (n : ℕ). get_or (part p n w) k 0) lent, ap (λ (n : ℕ). get_or (part p n w) (most_ordinates + k) 0) lent) }

pub overflow_add-areas : goal.overflow_add-areas
overflow_add-areas c =
    let s = c in
    omega (arith, pair_areas s.args.stack s.args.nq s.args.work.now s.requires.le_depth.0)

pub returns : goal.returns
returns c =
    let s = c in
    let x = s.args in
    let w = x.work.now in
    let p = most_ordinates * (x.stack.depth - 2) in
    let lent : p + (2 * most_ordinates) - p ≡ (2 * most_ordinates) = omega arith in
    let upper : p + most_ordinates ≡ most_ordinates * (x.stack.depth - 1) = omega arith in
    (pair_stack x.stack _ _ _ (omega arith) (omega arith) (omega arith), rw (c.add_from.ensures, lent) (pair_words p x.nq w (omega arith) (omega arith) ∙ rw upper))
