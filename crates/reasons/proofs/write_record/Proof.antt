-- By the record: one with fields tells the first that is refused, a KK line its name, and any other nothing.
use Prim.Native.Nat.{ℕ, ◌<◌}
use mathlib.Core.Path.{subst}
use mathlib.Core.List.{List}
use native.Mathlib.Omega.{arith}
use borrow.Author.Rules.{rules}
use Rattle.meaning.specs.Words.{when◌then◌else◌}
use Rattle.meaning.specs.Fields.{fields_of}
use Rattle.fields.specs.Spans.{form_of}
use Rattle.records.specs.Rows.{items}
use Rattle.identifiers.specs.Heads.{OfTable}
use Rattle.text.specs.Written.{Written, written_none}
use Rattle.reasons.specs.ByRecord.{item_reason}
use Rattle.reasons.proofs.write_record.Statement.{statement}
use Rattle.reasons.proofs.write_record.Tie as tie

-- A RECORD OF A BLOCK is one of the table
abbrev Item : Type 0
Item = tie.In-Of

abbrev entry : Item → tie.Start
entry c = c.before.before.before

inside : (c : Item) → c.in-Of.item < items
inside c = subst OfTable c.in-Of.is (entry c).requires.0

write-fields-requires-3 : tie.Need-write_fields-requires-in-Of
write-fields-requires-3 c κs = let s = entry c.before in (omega (arith, inside c.before), s.requires.1, s.requires.2)

returns : tie.Need-returns-in-It
unfolding when◌then◌else◌
returns c = rw c.in-It.is c.write_fields.ensures

returns-2 : tie.Need-returns-in-Jr
unfolding when◌then◌else◌
returns-2 c = rw c.in-Jr.is c.write_fields-in-Jr.ensures

returns-3 : tie.Need-returns-in-Kk
returns-3 c = rw c.in-Kk.is c.write_name.ensures

returns-4 : tie.Need-returns-in-Of
returns-4 c =
    let k = c.before.before.before.before in
    let x = (entry k).args in
    let written = c.write_fields-in-Of in
    let same = item_reason x.six _ (fields_of (form_of x.free) x.l.now) (inside k) in
    rw k.in-Of.is (subst (λ (t : List ℕ). Written x.out.now 0 t written.new.out written.result) same written.ensures)

pub write_record_spec : {M : Type 1} → statement M
write_record_spec =
    tie.close
    (tie.spec
    (λ c. search rules) (λ c κs. search rules) (λ c. search rules) (λ c κs. search rules) (λ c. search rules) (λ c κs. search rules) (λ c. search rules) write-fields-requires-3
    (λ c. search rules) (λ c. search rules) (λ c. search rules) (λ c. search rules) (λ c. search rules)
    (λ c. search rules) returns (λ c. search rules) returns-2 (λ c. search rules) returns-3 (λ c. search rules) returns-4
    -- ID, KM, ZZ, and the two controls
    (λ c. rw c.in-Id.is (written_none _ 0)) (λ c. rw c.in-Km.is (written_none _ 0)) (λ c. rw c.in-Zz.is (written_none _ 0))
    (λ c. rw c.in-Free.is (written_none _ 0)) (λ c. rw c.in-Fix.is (written_none _ 0)))
