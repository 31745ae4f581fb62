-- Two outcomes that meet a contract of this crate, as its `ensures` line has it, are equal.
use mathlib.Core.Path.{◌≡◌, sym, ◌∙◌}
use Rattle.sequences.specs.OneOutcome.{Once}
use Rattle.forms.specs.Fault.{fault-told}
use Rattle.forms.proofs.Fault.number.Kinds as fault-number
use Rattle.forms.proofs.Fault.number.Reads as fault-number-says
use Rattle.forms.proofs.is_filled.Kinds as is-filled
use Rattle.forms.proofs.is_filled.Reads as is-filled-says
use Rattle.forms.proofs.fault_of.Kinds as fault-of
use Rattle.forms.proofs.fault_of.Reads as fault-of-says
use Rattle.forms.proofs.put_new.Kinds as put-new
use Rattle.forms.proofs.put_new.Reads as put-new-says
use Rattle.forms.proofs.put_old.Kinds as put-old
use Rattle.forms.proofs.put_old.Reads as put-old-says

pub one_number : Once fault-number.ps fault-number.r fault-number-says.Post (λ κs x y e f. x ≡ y)
one_number κs a x y e f p q = p ∙ sym q

pub one_is_filled : Once is-filled.ps is-filled.r is-filled-says.Post (λ κs x y e f. x ≡ y)
one_is_filled κs a x y e f p q = p ∙ sym q

pub one_fault_of : Once fault-of.ps fault-of.r fault-of-says.Post (λ κs x y e f. x ≡ y)
one_fault_of κs a x y e f p q = fault-told x y (p ∙ sym q)

pub one_put-new : Once put-new.ps put-new.r put-new-says.Post (λ κs x y e f. e.0.now ≡ f.0.now)
one_put-new κs a x y e f p q = cc

pub one_put-old : Once put-old.ps put-old.r put-old-says.Post (λ κs x y e f. e.0.now ≡ f.0.now)
one_put-old κs a x y e f p q = cc
