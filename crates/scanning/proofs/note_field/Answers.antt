-- A fault leaves all as it was; else what is kept is what the definition notes.
use Rattle.std.specs.Prelude.{ℕ, ◌≡◌, true, List, Err}
use Rattle.std.proofs.Common.{refl}
use Rattle.meaning.specs.Records.{Rule, rule_at, faulty_field}
use Rattle.refusals.specs.declared.Refusal.TheVariants.{Malformed}
use Rattle.records.specs.Rows.{rules_by}
use Rattle.scanning.specs.declared.Scan.{Scan}
use Rattle.scanning.specs.Scans.{noted_by, Notes}
use Rattle.scanning.proofs.note_field.Goals as goal

-- a fault, by which the line is refused, leaves the values
fault : (rules : List Rule) (k : ℕ) (f values : List ℕ) (s : Scan) → faulty_field (rule_at rules k) f ≡ true → Notes rules k f values s values (Err Malformed)
fault rules k f values s e = (e, refl, refl)

pub returns-in-None : goal.returns-in-None
returns-in-None c = let x = c.args in fault (rules_by x.item) x.k x.f.now x.values.now x.scan (rw c.in-None.is at c.field_at.ensures)

pub returns-in-Some : goal.returns-in-Some
returns-in-Some c =
    let x = c.args in
    let e = rw c.in-Some.is at c.field_at.ensures in
    let done =
    noted_by (rules_by x.item) x.k x.f.now x.values.now x.scan c.keep.new.values c.note.result _ _
    c.keep.ensures
    c.note.ensures.0
    c.note.ensures.1
    e.1
    e.2 in
    (e.0, done)
