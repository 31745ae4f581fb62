-- By the record, the rules and the fields that the code goes by are those of the definitions.
--     item_reason, time-reason, ratio-reason    of a record of a block, of the time control, of the ratios
--     raised, stated_same, stated-raised    the rule of a field: that of the reading, with a ratio's lowest value raised
--     faulty_inside    a field that is a fault has no value outside its limits
--     refused_faulty, refused-six, refused-seven    whether a field is refused, by what was read of it
use Rattle.std.specs.Prelude.{ℕ, zero, suc, ◌-◌, ◌≤◌, ◌<◌, ◌≡◌, Bool, true, false, ◌&&◌, not, List, [], ◌++◌, length, replicate}
use Rattle.std.proofs.Math.Path.{refl}
use Rattle.std.proofs.Common.{sym, true≢false, ⊎_elim, append-nil, arith, ne_eqb}
use Rattle.std.proofs.lemmas.List.{get_or-replicate}
use Rattle.std.proofs.Math.ListN.{get_or-eq_default}
use Rattle.sequences.specs.Choices.{below_or_not}
use Rattle.meaning.specs.Words.{◌=?◌, when◌then◌else◌}
use Rattle.meaning.specs.Numbers.{Value, Malformed, Negative, Units, number_of, in_units}
use Rattle.meaning.specs.Records.{Rule, Unnamed, NotRead, Limited, Worded, Row, Once, Listed, Item, row_of, rules_of, ratio_rules, time_rules, filled_up, value_fields, rule_at, is_malformed, is_outside, is_other, word_in, faulty_field, outside_field}
use Rattle.meaning.specs.Run.{ratio_fields}
use Rattle.meaning.specs.Reasons.{first_field, refused_by}
use Rattle.rules.specs.Rules.{FewPlaces}
use Rattle.records.specs.Rows.{items, rules_by, span_in, block_row, ratio_scan}
use Rattle.scanning.specs.WholeLine.{value_fields_in, fields_in_lem}
use Rattle.reasons.specs.Stated.{stated_rules, stated_fields}

-- THE FIELDS of a record of a block
row_fields : (row : Row) (fs : List (List ℕ)) → fs ++ replicate (span_in row 0 - length fs) [] ≡ value_fields_in row fs
row_fields (Once i rules) fs = refl
row_fields (Listed i m each) fs = let none : 0 - length fs ≡ 0 = omega arith in rw none (append-nil fs)

module _ (six : Bool) (item : Item) (fs : List (List ℕ)) (inside : item < items) where
  no-ratios : (item =? suc items) ≡ false
  no-ratios = ne_eqb item (suc items) (λ e. omega (arith, inside, e))

  pub item_reason : first_field (refused_by six) (stated_rules item) 0 (stated_fields item fs) ≡ first_field (refused_by six) (rules_of item) 0 (value_fields item fs)
  unfolding when◌then◌else◌
  item_reason = rw (no-ratios, block_row item inside, row_fields (row_of item) fs, fields_in_lem item fs)

module _ (six : Bool) (fs : List (List ℕ)) where
  pub time-reason : first_field (refused_by six) (stated_rules items) 0 (stated_fields items fs) ≡ first_field (refused_by six) time_rules 0 (filled_up time_rules fs)
  unfolding when◌then◌else◌
  time-reason = refl

  pub ratio-reason : first_field (refused_by six) (stated_rules (suc items)) 0 (stated_fields (suc items) fs) ≡ first_field (refused_by six) ratio_rules 0 (ratio_fields fs)
  unfolding when◌then◌else◌
  ratio-reason = refl

-- THE RULE of a ratio
abbrev pub raised : Rule → Rule
raised Unnamed = Unnamed
raised NotRead = NotRead
raised (Limited places low high) = Limited places 1 high
raised (Worded refusal most low high) = Worded refusal most low high

raised-ratio : (k : ℕ) → raised (rule_at ratio_scan k) ≡ rule_at ratio_rules k
raised-ratio zero = refl
raised-ratio (suc k) =
    ⊎_elim
    (λ (h : k < 9). rw (get_or-replicate 9 k (Limited 2 0 999) Unnamed h, get_or-replicate 9 k (Limited 2 1 999) Unnamed h))
    (λ (h : 9 ≤ k).
    let a : length (replicate 9 (Limited 2 0 999)) ≤ k = omega arith in
    let b : length (replicate 9 (Limited 2 1 999)) ≤ k = omega arith in
    rw (get_or-eq_default (replicate 9 (Limited 2 0 999)) Unnamed a, get_or-eq_default (replicate 9 (Limited 2 1 999)) Unnamed b))
    (below_or_not k 9)

module _ (item k : ℕ) where
  pub stated_same : (item ≡ suc items → ⊥) → rule_at (stated_rules item) k ≡ rule_at (rules_by item) k
  unfolding when◌then◌else◌
  stated_same other = rw (ne_eqb item (suc items) other)

  pub stated-raised : item ≡ suc items → rule_at (stated_rules item) k ≡ raised (rule_at (rules_by item) k)
  unfolding when◌then◌else◌
  stated-raised is = rw (is) (sym (raised-ratio k))

-- which has as few places
pub raised_few : (rule : Rule) → FewPlaces rule → FewPlaces (raised rule)
raised_few Unnamed few = few
raised_few NotRead few = few
raised_few (Limited places low high) few = few
raised_few (Worded refusal most low high) few = few

-- REFUSED, by what was read of the field
malformed_inside : (low high : ℕ) (v : Value) → is_malformed v ≡ true → is_outside low high v ≡ false
malformed_inside low high Malformed e = refl
malformed_inside low high Negative e = absurd (true≢false (sym e))
malformed_inside low high (Units n) e = absurd (true≢false (sym e))

other_one : (a b : Bool) → (a && b) ≡ true → (a && not b) ≡ false
other_one true true e = refl
other_one true false e = absurd (true≢false (sym e))
other_one false b e = refl

pub faulty_inside : (rule : Rule) (f : List ℕ) → faulty_field rule f ≡ true → outside_field rule f ≡ false
faulty_inside Unnamed f e = refl
faulty_inside NotRead f e = refl
faulty_inside (Limited places low high) f e = malformed_inside low high (in_units places (number_of f)) e
faulty_inside (Worded refusal most low high) f e = other_one (is_other low high (word_in most f)) (refusal =? 6) e

module _ (rule : Rule) (f : List ℕ) where
  -- a fault
  pub refused_faulty : (six : Bool) → faulty_field rule f ≡ true → six ≡ refused_by six rule f
  refused_faulty true is = sym is
  refused_faulty false is = sym (faulty_inside rule f is)

  -- a value, where 6 is asked for, and where 7 is
  pub refused-six : (six : Bool) → six ≡ true → faulty_field rule f ≡ false → false ≡ refused_by six rule f
  refused-six true e is = sym is
  refused-six false e is = absurd (true≢false (sym e))

  pub refused-seven : (six outside : Bool) → six ≡ false → outside ≡ outside_field rule f → outside ≡ refused_by six rule f
  refused-seven true outside e is = absurd (true≢false e)
  refused-seven false outside e is = is
