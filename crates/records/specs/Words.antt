-- The words that a field may hold: the number behind each, by which another one is refused, is that of a refusal.
--     word_named    so it is in every field of a record
use Rattle.std.specs.Prelude.{ℕ, zero, suc, ◌≡◌, refl, Bool, true, ◌&&◌, List, [], ◌∷◌}
use Rattle.std.proofs.Common.{ap, sym, ◌∙◌, eqb-true}
use Rattle.sequences.specs.Choices.{both_hold}
use Rattle.meaning.specs.Words.{◌=?◌}
use Rattle.meaning.specs.Records.{Rule, Unnamed, NotRead, Limited, Worded, Row, Item, rules_in, rule_at}
use Rattle.refusals.specs.Numbers.{refusal_number, named_by, Named}
use Rattle.records.specs.Rows.{row_at, field_rows, rules_by}

-- Of each rule: the number behind a word is a refusal's. The others pass.
abbrev names_refusal : Rule → Bool
names_refusal Unnamed = true
names_refusal NotRead = true
names_refusal (Limited places low high) = true
names_refusal (Worded refusal most low high) = refusal_number (named_by refusal) =? refusal

abbrev all_named : List Rule → Bool
all_named [] = true
all_named (r ∷ rs) = names_refusal r && all_named rs

abbrev rows_named : List Row → Bool
rows_named [] = true
rows_named (row ∷ rows) = all_named (rules_in row) && rows_named rows

all-named : (rules : List Rule) → all_named rules ≡ true → (k : ℕ) → names_refusal (rule_at rules k) ≡ true
all-named [] h k = refl
all-named (r ∷ rs) h zero = (both_hold (names_refusal r) (all_named rs) h).0
all-named (r ∷ rs) h (suc k) = all-named rs (both_hold (names_refusal r) (all_named rs) h).1 k

rows-named : (rows : List Row) → rows_named rows ≡ true → (p k : ℕ) → names_refusal (rule_at (rules_in (row_at rows p)) k) ≡ true
rows-named [] h p k = refl
rows-named (row ∷ rows) h zero k = all-named (rules_in row) (both_hold (all_named (rules_in row)) (rows_named rows) h).0 k
rows-named (row ∷ rows) h (suc p) k = rows-named rows (both_hold (all_named (rules_in row)) (rows_named rows) h).1 p k

pub word_named : (item : Item) (k number most low high : ℕ) → rule_at (rules_by item) k ≡ Worded number most low high → Named number
word_named item k number most low high e =
    let same : (refusal_number (named_by number) =? number) ≡ true = sym (ap names_refusal e) ∙ rows-named field_rows refl item k in
    (named_by number, eqb-true (refusal_number (named_by number)) number same)
