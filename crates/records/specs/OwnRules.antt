-- The rules of the records' fields, as the code has them.
use Rattle.std.specs.Prelude.{ℕ, zero, suc, ◌≤◌, ◌<◌, ◌≡◌, refl, Bool, true, ◌&&◌, List, [], ◌∷◌, length, replicate}
use Rattle.std.proofs.Common.{zero-le, sym, arith, le_trans, leb-true}
use Prim.Native.String.{String}
use Rattle.std.proofs.lemmas.List.{get_or-replicate}
use Rattle.std.proofs.Math.ListN.{get_or-eq_default}
use Rattle.sequences.specs.Choices.{both_hold}
use Rattle.meaning.specs.Words.{◌≤?◌}
use Rattle.meaning.specs.Records as records
use Rattle.meaning.specs.Records.{Row, Once, Listed, Item, rules_in, rule_at}
use Rattle.rules.specs.Rules.{FewPlaces}
use Rattle.records.specs.Rows.{items, row_at, field_rows, field_row, rules_by, few_rules}

-- the rule of a field, or of the values that are listed
abbrev pub own_rule : Row → ℕ → records.Rule
own_rule (Once identifier fields) k = rule_at fields k
own_rule (Listed identifier most each) k = each

-- past a record's fields nothing is named
pub past : (rules : List records.Rule) (k : ℕ) → length rules ≤ k → records.Unnamed ≡ rule_at rules k
past rules k h = sym (get_or-eq_default rules records.Unnamed h)

-- no record has more than ten fields, and a list has ten to a line
pub past_ten : (item : Item) (k : ℕ) → 10 ≤ k → records.Unnamed ≡ rule_at (rules_by item) k
past_ten item k h = past (rules_by item) k (le_trans (few_rules item) h)

pub within_ten : (item : Item) (k : ℕ) → k < 10 → own_rule (field_row item) k ≡ rule_at (rules_by item) k
within_ten item k h = by (field_row item)
  where
    by : (r : Row) → own_rule r k ≡ rule_at (rules_in r) k
    by (Once i fs) = refl
    by (Listed i m r) = sym (get_or-replicate 10 k r records.Unnamed h)

-- A number that is none of 0, 1, .. up to n, as a match tells it behind what it told before.
abbrev pub Other : Type 0 → ℕ → ℕ → Type 0
Other T zero i = T
Other T (suc n) i = Other T n i × (i ≡ n → ⊥)

other_past : (T : Type 0) (n i : ℕ) → Other T n i → T × (n ≤ i)
other_past T zero i h = (h, zero-le)
other_past T (suc n) i h = let k = other_past T n i h.0 in (k.0, omega (arith, k.1, h.1))

-- past its own fields a record that stands once has none
pub past_last : {row : Row} {identifier : String} {fields : List records.Rule} (k : ℕ) → row ≡ Once identifier fields → length fields ≤ k → records.Unnamed ≡ own_rule row k
past_last {fields = fields} k e h = rw e (past fields k h)

pub past_fields : {row : Row} {identifier : String} {fields : List records.Rule} (k : ℕ) → row ≡ Once identifier fields → Other Unit (length fields) k
    → records.Unnamed ≡ own_rule row k
past_fields {fields = fields} k e h = past_last k e (other_past Unit (length fields) k h).1

-- behind its first field it may have some that are alike
pub like_fields : {row : Row} {identifier : String} {head each : records.Rule} {n : ℕ} (k : ℕ) → row ≡ Once identifier (head ∷ replicate n each) → (k ≡ 0 → ⊥) → k < suc n
    → each ≡ own_rule row k
like_fields zero e some few = absurd (some refl)
like_fields {each = each} {n = n} (suc k) e some few = rw e (sym (get_or-replicate n k each records.Unnamed (omega arith)))

-- past the table there is no record: a number that is neither the time control's nor the ratios', and none of the records'
abbrev pub NotTime : ℕ → Type 0
NotTime item = (Unit × (item ≡ items → ⊥)) × (item ≡ suc items → ⊥)

past_both : (n item : ℕ) → n ≤ item → (item ≡ n → ⊥) → (item ≡ suc n → ⊥) → suc (suc n) ≤ item
past_both n item h a b = omega arith

pub no_rule : (item k : ℕ) → Other (NotTime item) items item → records.Unnamed ≡ own_rule (field_row item) k
no_rule item k h =
    let other = other_past (NotTime item) items item h in
    let far : length field_rows ≤ item = past_both items item other.1 other.0.0.1 other.0.1 in
    rw (get_or-eq_default field_rows (Once "" []) far)

-- Every rule of the table has few places and characters: one test over the rows.
abbrev few_in : records.Rule → Bool
few_in records.Unnamed = true
few_in records.NotRead = true
few_in (records.Limited places low high) = places ≤? 4
few_in (records.Worded refusal most low high) = most ≤? 8

abbrev all_few : List records.Rule → Bool
all_few [] = true
all_few (r ∷ rs) = few_in r && all_few rs

abbrev rows_few : List Row → Bool
rows_few [] = true
rows_few (row ∷ rows) = all_few (rules_in row) && rows_few rows

few-in : (r : records.Rule) → few_in r ≡ true → FewPlaces r
few-in records.Unnamed h = tt
few-in records.NotRead h = tt
few-in (records.Limited places low high) h = leb-true places 4 h
few-in (records.Worded refusal most low high) h = leb-true most 8 h

all-few : (rules : List records.Rule) → all_few rules ≡ true → (k : ℕ) → FewPlaces (rule_at rules k)
all-few [] h k = tt
all-few (r ∷ rs) h zero = few-in r (both_hold (few_in r) (all_few rs) h).0
all-few (r ∷ rs) h (suc k) = all-few rs (both_hold (few_in r) (all_few rs) h).1 k

rows_few_lem : (rows : List Row) → rows_few rows ≡ true → (p k : ℕ) → FewPlaces (rule_at (rules_in (row_at rows p)) k)
rows_few_lem [] h p k = tt
rows_few_lem (row ∷ rows) h zero k = all-few (rules_in row) (both_hold (all_few (rules_in row)) (rows_few rows) h).0 k
rows_few_lem (row ∷ rows) h (suc p) k = rows_few_lem rows (both_hold (all_few (rules_in row)) (rows_few rows) h).1 p k

pub few_places : (item : Item) (k : ℕ) → FewPlaces (rule_at (rules_by item) k)
few_places item k = rows_few_lem field_rows refl item k
