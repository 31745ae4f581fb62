-- A line that is not faulty has no more fields than its record names, since its last field is not blank.
--     line_few        so
--     length-values   as many values as fields
--     front-sound     the first fields of a line that is not faulty are not either
use Rattle.std.specs.Prelude.{ℕ, ◌+◌, ◌≤◌, ◌<◌, max, ◌≡◌, refl, Bool, true, false, ◌&&◌, not, List, [], ◌∷◌, ◌++◌, length}
use Rattle.std.proofs.Common.{sym, ◌∙◌, true≢false, ⊎_elim, arith}
use Rattle.std.proofs.Math.ListN.{get_or-eq_default}
use Rattle.sequences.specs.Choices.{both_fail, below_or_not}
use Rattle.meaning.specs.Words.{when◌then◌else◌, empty}
use Rattle.meaning.specs.Fields.{Form, trim_end, fields_in, fields_of}
use Rattle.meaning.specs.Records.{Rule, Unnamed, rule_at, faulty_field, any_field, any_faulty, values_from}

pub length-values : (rules : List Rule) (k : ℕ) (fs : List (List ℕ)) → length (values_from rules k fs) ≡ length fs
unfolding values_from
length-values rules k [] = refl
length-values rules k (f ∷ fs) = omega (arith, length-values rules (k + 1) fs)

-- the first fields of a line that is not faulty are not either
pub front-sound : (rules : List Rule) (k : ℕ) (fs gs : List (List ℕ)) → any_faulty rules k (fs ++ gs) ≡ false → any_faulty rules k fs ≡ false
unfolding any_field
front-sound rules k [] gs e = refl
front-sound rules k (f ∷ fs) gs e =
    let each = both_fail (faulty_field (rule_at rules k) f) (any_faulty rules (k + 1) (fs ++ gs)) e in
    rw each.0 (front-sound rules (k + 1) fs gs each.1)

none_there : (fs : List (List ℕ)) → length fs ≡ 0 → empty fs ≡ true
none_there [] e = refl
none_there (f ∷ fs) e = absurd (omega arith)

not_false : (t : Bool) → not t ≡ false → t ≡ true
not_false true e = refl
not_false false e = absurd (true≢false e)

-- past the rules a field is blank, and so it is not the last
past_rules : (rules : List Rule) (k : ℕ) (f : List ℕ) → length rules ≤ k → faulty_field (rule_at rules k) f ≡ false → empty f ≡ true
past_rules rules k f past e =
    let blank : not (empty f) ≡ false = rw (get_or-eq_default rules Unnamed past) at e in
    not_false (empty f) blank

few-fields : (rules : List Rule) (k : ℕ) (fs : List (List ℕ)) → any_faulty rules k (trim_end empty fs) ≡ false → k + length (trim_end empty fs) ≤ max k (length rules)
unfolding trim_end any_field when◌then◌else◌
few-fields rules k [] e = omega arith
few-fields rules k (f ∷ fs) e = by (empty f && empty (trim_end empty fs)) refl (few-fields rules (k + 1) fs) e
  where
    by : (t : Bool) → (empty f && empty (trim_end empty fs)) ≡ t
        → (any_faulty rules (k + 1) (trim_end empty fs) ≡ false → k + 1 + length (trim_end empty fs) ≤ max (k + 1) (length rules))
        → any_faulty rules k (when t then [] else f ∷ trim_end empty fs) ≡ false → k + length (when t then [] else f ∷ trim_end empty fs) ≤ max k (length rules)
    by true last ih g = omega arith
    by false last ih g =
        let each = both_fail (faulty_field (rule_at rules k) f) (any_faulty rules (k + 1) (trim_end empty fs)) g in
        let rest = ih each.1 in
        ⊎_elim
        (λ (within : k < length rules). omega arith)
        (λ (past : length rules ≤ k).
        let none : empty (trim_end empty fs) ≡ true = none_there (trim_end empty fs) (omega arith) in
        absurd (true≢false (sym (rw (past_rules rules k f past each.0, none)) ∙ last)))
        (below_or_not k (length rules))

pub line_few : (rules : List Rule) (form : Form) (l : List ℕ) → any_faulty rules 0 (fields_of form l) ≡ false → length (fields_of form l) ≤ length rules
unfolding fields_of
line_few rules form l e = omega (arith, few-fields rules 0 (fields_in form l) e)
