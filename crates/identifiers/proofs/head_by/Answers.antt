-- The place that a search of the table finds; then ZZ; then no record.
use Rattle.std.proofs.Common.{rules, ◌≡◌, ◌∙◌, refl, sym, ap, ℕ, true, false}
use borrow.Author.Tests.{lt-ltb, le-ltb, eq-eqb, ne_eqb}
use Rattle.sequences.specs.Choices.{taken, passed}
use Rattle.meaning.specs.Words.{◌<?◌}
use Rattle.meaning.specs.Records as records
use Rattle.meaning.specs.Run.{Holds}
use Rattle.records.specs.Rows.{items}
use Rattle.records.specs.Keys.{place_of}
use Rattle.identifiers.specs.Heads.{unread}
use Rattle.identifiers.specs.Keys.{behind-place}
use Rattle.identifiers.proofs.head_by.Goals as goal

pub returns-then-item-lt-RECORDS : goal.returns-then-item-lt-RECORDS
returns-then-item-lt-RECORDS c =
    let x = c.args in
    let e = c.place_of-item.ensures.0 in
    let t : (place_of x.key <? items) ≡ true = rw (sym e) (lt-ltb _ _ c.if-item-lt-RECORDS.true) in
    (rw (behind-place x.key (unread x.l.now)) (taken _ t (ap (λ (p : ℕ). Holds (records.Of p)) e)), c.if-item-lt-RECORDS.true)

pub returns-then-key-key_of : goal.returns-then-key-key_of
returns-then-key-key_of c =
    let x = c.args in
    let t : (place_of x.key <? items) ≡ false = rw (sym c.place_of-item.ensures.0) (le-ltb _ _ c.if-item-lt-RECORDS.false) in
    (rw (behind-place x.key (unread x.l.now)) (passed _ t (taken _ (eq-eqb _ _ (c.if-key-key_of.true ∙ c.key_of.ensures)) refl)), tt)

pub returns : goal.returns
returns c =
    let x = c.args in
    let t : (place_of x.key <? items) ≡ false = rw (sym c.place_of-item.ensures.0) (le-ltb _ _ c.if-item-lt-RECORDS.false) in
    (rw (behind-place x.key (unread x.l.now)) (passed _ t (passed _ (ne_eqb _ _ (λ g. c.if-key-key_of.false (g ∙ sym c.key_of.ensures))) c.read_control.ensures.0)), c.read_control.ensures.1)
