-- Two outcomes that meet a contract of this crate, as its `ensures` line has it, are equal.
use mathlib.Core.Path.{◌≡◌, sym, ◌∙◌}
use Rattle.sequences.specs.OneOutcome.{Once}
use Rattle.lending.proofs.ordinates_from.Kinds as ordinates-from
use Rattle.lending.proofs.ordinates_from.Reads as ordinates-from-says
use Rattle.lending.proofs.records_from.Kinds as records-from
use Rattle.lending.proofs.records_from.Reads as records-from-says
use Rattle.lending.proofs.clear_from.Kinds as clear-from
use Rattle.lending.proofs.clear_from.Reads as clear-from-says
use Rattle.lending.proofs.sooner.Kinds as sooner
use Rattle.lending.proofs.sooner.Reads as sooner-says
use Rattle.lending.proofs.count_of.Kinds as count_of
use Rattle.lending.proofs.count_of.Reads as count-of-says

pub one_ordinates_from : Once ordinates-from.ps ordinates-from.r ordinates-from-says.Post (λ κs x y e f. x ≡ y)
one_ordinates_from κs a x y e f p q = p ∙ sym q

pub one_records_from : Once records-from.ps records-from.r records-from-says.Post (λ κs x y e f. x ≡ y)
one_records_from κs a x y e f p q = p ∙ sym q

pub one_clear_from : Once clear-from.ps clear-from.r clear-from-says.Post (λ κs x y e f. e.0.now ≡ f.0.now)
one_clear_from κs a x y e f p q = cc

pub one_sooner : Once sooner.ps sooner.r sooner-says.Post (λ κs x y e f. x ≡ y)
one_sooner κs a x y e f p q = p ∙ sym q

pub one_count_of : Once count_of.ps count_of.r count-of-says.Post (λ κs x y e f. x ≡ y)
one_count_of κs a x y e f p q = p ∙ sym q
