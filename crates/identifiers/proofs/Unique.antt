-- Two answers that meet the contract of this crate, as its `ensures` line has it, are one: no two mean the same head.
use mathlib.Core.Path.{◌≡◌, refl, sym, ap, ◌∙◌}
use Rattle.std.specs.Prelude.{Option, None, Some, Result, Ok, Err}
use Rattle.meaning.specs.Fields.{Fixed, Free}
use Rattle.meaning.specs.Records as records
use Rattle.meaning.specs.Run as run
use Rattle.sequences.specs.OneOutcome.{Once}
use Rattle.refusals.specs.declared.Refusal.{Refusal}
use Rattle.refusals.specs.Numbers.{named_by, named_back}
use Rattle.identifiers.specs.declared.Record.{Record}
use Rattle.identifiers.specs.declared.Record.TheVariants as kind
use Rattle.identifiers.specs.Heads.{record_is, head_is}
use Rattle.identifiers.proofs.head_of.Kinds as head_of
use Rattle.identifiers.proofs.head_of.Reads as head-of-says

abbrev record_for : records.Record → Record
record_for records.ID = kind.Id
record_for records.IT = kind.It
record_for records.JR = kind.Jr
record_for records.KK = kind.Kk
record_for records.KM = kind.Km
record_for records.ZZ = kind.Zz
record_for (records.Control Free) = kind.Free
record_for (records.Control Fixed) = kind.Fix
record_for (records.Of item) = kind.Of item

abbrev head_for : run.Head → Result (Option Record) Refusal
head_for run.Skipped = Ok None
head_for (run.Faulty n) = Err (named_by n)
head_for (run.Holds r) = Ok (Some (record_for r))

record-told : (r : Record) → record_for (record_is r) ≡ r
record-told kind.Id = refl
record-told kind.It = refl
record-told kind.Jr = refl
record-told kind.Kk = refl
record-told kind.Km = refl
record-told kind.Zz = refl
record-told kind.Free = refl
record-told kind.Fix = refl
record-told (kind.Of item) = refl

head-told : (h : Result (Option Record) Refusal) → head_for (head_is h) ≡ h
head-told (Ok None) = refl
head-told (Ok (Some r)) = ap (λ (k : Record). Ok (Some k)) (record-told r)
head-told (Err refusal) = ap Err (named_back refusal)

pub one_head : Once head_of.ps head_of.r head-of-says.Post (λ κs x y e f. x ≡ y)
one_head κs a x y e f p q = sym (head-told x) ∙ ap head_for (p.0 ∙ sym q.0) ∙ head-told y
