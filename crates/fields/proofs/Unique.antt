-- Two outcomes that meet a contract of this crate, as its `ensures` line has it, are equal.
use mathlib.Core.Path.{◌≡◌}
use Rattle.sequences.specs.OneOutcome.{Once}
use Rattle.fields.proofs.past_blanks.Kinds as past-blanks
use Rattle.fields.proofs.past_blanks.Reads as past-blanks-says
use Rattle.fields.proofs.text_end.Kinds as text-end
use Rattle.fields.proofs.text_end.Reads as text-end-says
use Rattle.fields.proofs.first_place.Kinds as first-place
use Rattle.fields.proofs.first_place.Reads as first-place-says
use Rattle.fields.proofs.span_at.Kinds as span-at
use Rattle.fields.proofs.span_at.Reads as span-at-says
use Rattle.fields.proofs.names.name_span.Kinds as name-span
use Rattle.fields.proofs.names.name_span.Reads as name-span-says
use Rattle.fields.proofs.names.bad_name.Kinds as bad-name
use Rattle.fields.proofs.names.bad_name.Reads as bad-name-says

pub one_past_blanks : Once past-blanks.ps past-blanks.r past-blanks-says.Post (λ κs x y e f. x ≡ y)
one_past_blanks κs a x y e f p q = cc

pub one_text-end : Once text-end.ps text-end.r text-end-says.Post (λ κs x y e f. x ≡ y)
one_text-end κs a x y e f p q = cc

pub one_first_place : Once first-place.ps first-place.r first-place-says.Post (λ κs x y e f. x ≡ y)
one_first_place κs a x y e f p q = cc

pub one_span_at : Once span-at.ps span-at.r span-at-says.Post (λ κs x y e f. x ≡ y)
one_span_at κs a x y e f p q = cc

pub one_name_span : Once name-span.ps name-span.r name-span-says.Post (λ κs x y e f. x ≡ y)
one_name_span κs a x y e f p q = cc

pub one_bad_name : Once bad-name.ps bad-name.r bad-name-says.Post (λ κs x y e f. x ≡ y)
one_bad_name κs a x y e f p q = cc
