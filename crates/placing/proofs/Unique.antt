-- Two outcomes that meet a contract of this crate, as its `ensures` line has it, say the same of the deck: where the reading stands, what a line does there and which
-- name it gives. What else the structs and the words hold is scratch.
use Prim.Native.Nat.{ℕ}
use mathlib.Core.Path.{◌≡◌, sym, ap, ◌∙◌}
use Rattle.std.specs.Prelude.{Result, Ok, Err}
use Rattle.std.proofs.Common.{true≢false}
use Rattle.refusals.specs.declared.Refusal.{Refusal}
use Rattle.blocks.specs.declared.Name.{Name}
use mathlib.Core.List.{List}
use Rattle.sequences.specs.OneOutcome.{Once, OnceAt}
use Rattle.blocks.specs.Meant.{name_is}
use Rattle.placing.specs.Readings.{reading_is}
use Rattle.placing.specs.Places.{placed_event}
use Rattle.placing.specs.Labels.{Labels}
use Rattle.placing.proofs.first_reading.Kinds as first-reading
use Rattle.placing.proofs.first_reading.Reads as first-reading-says
use Rattle.placing.proofs.open_block.Kinds as open_block
use Rattle.placing.proofs.open_block.Reads as open-block-says
use Rattle.placing.proofs.names.no_name.Kinds as no_name
use Rattle.placing.proofs.names.no_name.Reads as no-name-says
use Rattle.placing.proofs.names.read_name.Kinds as read_name
use Rattle.placing.proofs.names.read_name.Reads as read-name-says
use Rattle.placing.proofs.places.place_record.Kinds as place-record
use Rattle.placing.proofs.places.place_record.Reads as place-record-says

pub one_first_reading : Once first-reading.ps first-reading.r first-reading-says.Post (λ κs x y e f. reading_is x e.0.now ≡ reading_is y f.0.now)
one_first_reading κs a x y e f p q = p.is ∙ sym q.is

pub one_open_block : Once open_block.ps open_block.r open-block-says.Post (λ κs x y e f. reading_is x e.1.1.0.now ≡ reading_is y f.1.1.0.now)
one_open_block κs a x y e f p q = p.is ∙ sym q.is

pub one_no_name : Once no_name.ps no_name.r no-name-says.Post (λ κs x y e f. name_is x ≡ name_is y)
one_no_name κs a x y e f p q = p.0 ∙ sym q.0

-- the name's bytes, or the refusal
abbrev given : Result Name Refusal → Result (List ℕ) Refusal
given (Ok name) = Ok (name_is name)
given (Err refusal) = Err refusal

one_given : (name : List ℕ) (x y : Result Name Refusal) → Labels name x → Labels name y → given x ≡ given y
one_given name (Ok x) (Ok y) p q = ap Ok (p.1 ∙ sym q.1)
one_given name (Ok x) (Err y) p q = absurd (true≢false (sym q.0 ∙ p.0))
one_given name (Err x) (Ok y) p q = absurd (true≢false (sym p.0 ∙ q.0))
one_given name (Err x) (Err y) p q = ap Err (p.1 ∙ sym q.1)

pub one_name : Once read_name.ps read_name.r read-name-says.Post (λ κs x y e f. given x ≡ given y)
one_name κs a x y e f p q = one_given _ x y p q

pub one_place : OnceAt place-record.ps place-record.r place-record-says.Post
    (λ κs a x y e f. (l : List ℕ) → placed_event x (reading_is a.0 a.1.0.now) l ≡ placed_event y (reading_is a.0 a.1.0.now) l)
one_place κs a x y e f p q l = sym (p.0 l) ∙ q.0 l
