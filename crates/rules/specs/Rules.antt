-- Rules as the code has them, and what a field holds by its rule.
use Rattle.std.specs.Prelude.{ℕ, ◌≤◌, ◌≡◌, Bool, true, false, ◌&&◌, not, Option, Some, None}
use Rattle.std.proofs.Math.Path.{refl, sym}
use Rattle.std.proofs.Common.{ap, ◌∙◌, true≢false}
use Rattle.meaning.specs.Words.{◌=?◌, when◌then◌else◌}
use Rattle.meaning.specs.Numbers as numbers
use Rattle.meaning.specs.Records as records
use Rattle.meaning.specs.Records.{is_malformed, is_outside, is_other, units_of}
use Rattle.rules.specs.declared.Rule.{Rule}
use Rattle.rules.specs.declared.Rule.TheVariants.{Unnamed, NotRead, Limited, Worded}
use Rattle.rules.specs.declared.Held.{Held}

abbrev pub rule_by : Rule → records.Rule
rule_by Unnamed = records.Unnamed
rule_by NotRead = records.NotRead
rule_by (Limited places low high) = records.Limited places low high
rule_by (Worded refusal most low high) = records.Worded refusal most low high

-- and back: a rule of the definitions is one of the code
abbrev rule_for : records.Rule → Rule
rule_for records.Unnamed = Unnamed
rule_for records.NotRead = NotRead
rule_for (records.Limited places low high) = Limited places low high
rule_for (records.Worded refusal most low high) = Worded refusal most low high

rule_back : (r : Rule) → r ≡ rule_for (rule_by r)
rule_back Unnamed = refl
rule_back NotRead = refl
rule_back (Limited places low high) = refl
rule_back (Worded refusal most low high) = refl

pub one_rule : (x y : Rule) → rule_by x ≡ rule_by y → x ≡ y
one_rule x y e = rule_back x ∙ ap rule_for e ∙ sym (rule_back y)

-- What a field was found to hold: a fault, or no fault with its value and whether it is outside its limits.
abbrev pub FieldIs : Option Held → (faulty outside : Bool) → (value : ℕ) → Type 0
FieldIs None faulty outside value = faulty ≡ true
FieldIs (Some held) faulty outside value = (faulty ≡ false) × (held.outside ≡ outside) × (held.value ≡ value)

-- a value of a field
abbrev pub holds : ℕ → Bool → Held
holds value outside = record { value = value; outside = outside }

-- which leaves one only
pub one_field : (faulty outside : Bool) (value : ℕ) (x y : Option Held) → FieldIs x faulty outside value → FieldIs y faulty outside value → x ≡ y
one_field faulty outside value None None p q = refl
one_field faulty outside value None (Some y) p q = absurd (true≢false (sym p ∙ q.0))
one_field faulty outside value (Some x) None p q = absurd (true≢false (sym q ∙ p.0))
one_field faulty outside value (Some x) (Some y) p q =
    ap (λ (t : Bool). Some (holds x.value t)) (p.1 ∙ sym q.1) ∙ ap (λ (v : ℕ). Some (holds v y.outside)) (p.2 ∙ sym q.2)

-- and a word: another one by its refusal, 0 then its value
abbrev pub WordIs : Option Held → (refusal low high : ℕ) → numbers.Value → Type 0
WordIs x refusal low high v = FieldIs x (is_other low high v && (refusal =? 6)) (is_other low high v && not (refusal =? 6)) (when is_other low high v then 0 else units_of v)

-- from what a number of those limits would be told: malformed or outside, it is another word; else it is kept
module _ (refusal low high : ℕ) (v : numbers.Value) where
  abbrev pub LimitIs : Option Held → Type 0
  LimitIs x = FieldIs x (is_malformed v) (is_outside low high v) (units_of v)

  other_word : (x : Option Held) → is_other low high v ≡ true → FieldIs x (refusal =? 6) (not (refusal =? 6)) 0 → WordIs x refusal low high v
  unfolding when◌then◌else◌
  other_word x e h = rw e h

  pub faulty_other : (x : Option Held) → LimitIs None → FieldIs x (refusal =? 6) (not (refusal =? 6)) 0 → WordIs x refusal low high v
  faulty_other x l h = other_word x (rw l) h

  pub outside_other : (x : Option Held) (held : Held) → held.outside ≡ true → LimitIs (Some held) → FieldIs x (refusal =? 6) (not (refusal =? 6)) 0 → WordIs x refusal low high v
  outside_other x held e l h = other_word x (rw l.0 (sym l.1 ∙ e)) h

  pub inside_kept : (held : Held) → held.outside ≡ false → LimitIs (Some held) → WordIs (Some held) refusal low high v
  unfolding when◌then◌else◌
  inside_kept held e l = rw (l.0, sym l.1 ∙ e) (refl, e, l.2)

-- A number has four places at most, and a word eight characters, so that its number fits.
abbrev pub FewPlaces : records.Rule → Type 0
FewPlaces records.Unnamed = Unit
FewPlaces records.NotRead = Unit
FewPlaces (records.Limited places low high) = places ≤ 4
FewPlaces (records.Worded refusal most low high) = most ≤ 8
