-- Two outcomes that meet a contract of this crate, as its `ensures` line has it, are equal; of words they are equal as the block that they mean, since what stands
-- behind the counts is scratch.
use Prim.Native.Nat.{ℕ}
use mathlib.Core.Path.{◌≡◌, refl, sym, ◌∙◌}
use mathlib.Core.List.{List, []}
use Rattle.sequences.specs.OneOutcome.{Once}
use Rattle.refusals.specs.Numbers.{refusal_in, same_result}
use Rattle.meaning.specs.Blocks.{Time}
use Rattle.blocks.specs.Cards.{block_of}
use Rattle.blocks.specs.Meant.{ratios_is}
use Rattle.blocks.proofs.no_ratios.Kinds as no-ratios
use Rattle.blocks.proofs.no_ratios.Reads as no-ratios-says
use Rattle.blocks.proofs.ratio_at.Kinds as ratio-at
use Rattle.blocks.proofs.ratio_at.Reads as ratio-at-says
use Rattle.blocks.proofs.under.Kinds as under
use Rattle.blocks.proofs.under.Reads as under-says
use Rattle.blocks.proofs.take_values.Kinds as take-values
use Rattle.blocks.proofs.take_values.Reads as take-values-says
use Rattle.blocks.proofs.is_given.Kinds as is-given
use Rattle.blocks.proofs.is_given.Reads as is-given-says
use Rattle.blocks.proofs.is_repeated.Kinds as is-repeated
use Rattle.blocks.proofs.is_repeated.Reads as is-repeated-says
use Rattle.blocks.proofs.values.Kinds as values
use Rattle.blocks.proofs.values.Reads as values-says
use Rattle.blocks.proofs.value_at.Kinds as value-at
use Rattle.blocks.proofs.value_at.Reads as value-at-says
use Rattle.blocks.proofs.clear.Kinds as clear
use Rattle.blocks.proofs.clear.Reads as clear-says

pub one_is_given : Once is-given.ps is-given.r is-given-says.Post (λ κs x y e f. x ≡ y)
one_is_given κs a x y e f p q = p [] ∙ sym (q [])

pub one_is_repeated : Once is-repeated.ps is-repeated.r is-repeated-says.Post (λ κs x y e f. x ≡ y)
one_is_repeated κs a x y e f p q = p [] ∙ sym (q [])

pub one_values : Once values.ps values.r values-says.Post (λ κs x y e f. x.now ≡ y.now)
one_values κs a x y e f p q = p [] ∙ sym (q [])

pub one_value_at : Once value-at.ps value-at.r value-at-says.Post (λ κs x y e f. x ≡ y)
one_value_at κs a x y e f p q = p [] ∙ sym (q [])

pub one_clear : Once clear.ps clear.r clear-says.Post (λ κs x y e f. (name : List ℕ) → block_of name e.0.now ≡ block_of name f.0.now)
one_clear κs a x y e f p q name = p.0 name ∙ sym (q.0 name)

pub one_take-values : Once take-values.ps take-values.r take-values-says.Post (λ κs x y e f. (x ≡ y) × ((name : List ℕ) → block_of name e.0.now ≡ block_of name f.0.now))
one_take-values κs a x y e f p q =
    let τ : Time = record { minutes = 0; ordinates = a.1.1.1.1.0; ratio = 100; listed = [] } in
    let same : refusal_in x ≡ refusal_in y = p.number τ refl [] ∙ sym (q.number τ refl []) in
    (same_result x y same (λ u v h k. refl), λ (name : List ℕ). (rw same at (p.block name)) ∙ sym (q.block name))

-- JR's ratios are equal as the lists that they mean: what stands behind the count is scratch
pub one_no_ratios : Once no-ratios.ps no-ratios.r no-ratios-says.Post (λ κs x y e f. ratios_is x ≡ ratios_is y)
one_no_ratios κs a x y e f p q = p.0 ∙ sym q.0

pub one_ratio_at : Once ratio-at.ps ratio-at.r ratio-at-says.Post (λ κs x y e f. x ≡ y)
one_ratio_at κs a x y e f p q = p ∙ sym q

pub one_under : Once under.ps under.r under-says.Post (λ κs x y e f. x ≡ y)
one_under κs a x y e f p q = p ∙ sym q
