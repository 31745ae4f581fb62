-- What is told of a refused line is why it was refused.
--     Told            a text is the line of the first field that meets a test
--     first_told      where a field meets the test, the first one is told
--     Tells           by the record
--     refused-told    a line that is refused by 6, or by 7, wherever the reading stands, holds a record that tells why
use Prim.Native.Nat.{ℕ, zero, suc, ◌+◌, ◌<◌}
use Rattle.std.specs.Prelude.{◌≡◌, Bool, ◌&&◌, ◌||◌, not, length, get_or}
use Rattle.std.proofs.Math.Path.{refl, ap}
use Rattle.std.proofs.Common.{sym, ◌∙◌, true≢false}
use Rattle.std.proofs.Math.Bool.{true, false}
use mathlib.Core.List.{List, [], ◌∷◌}
use Rattle.std.proofs.Math.Nat.{add-zero}
use native.Mathlib.Omega.{arith}
use Rattle.meaning.specs.Words.{◌=?◌, when◌then◌else◌, empty, met, first}
use Rattle.meaning.specs.Lines.{foreign, all_blank}
use Rattle.meaning.specs.Fields.{Form, fields_of, name_in}
use Rattle.meaning.specs.Records.{Item, Record, ID, IT, JR, KK, KM, ZZ, Control, Of, Identified, Unknown, Known, identify, Rule, rule_at, time_rules, ratio_rules, rules_of, filled_up, value_fields, faulty_field, outside_field, any_field, bad_name}
use Rattle.meaning.specs.Blocks.{Time, Block, repeated, too_many}
use Rattle.meaning.specs.Run.{Faulty, Skipped, Holds, holding, head_of, Reading, BeforeTime, BeforeBlocks, InBlock, Event, Refuse, Go, Open, End, unless, time_refusal, ratio_fields, ratio_refusal, name_refusal, item_values, item_refusal, read_record, read_by, read_line}
use Rattle.meaning.specs.Reasons.{field_line, first_field, refused_by, record_reason}

-- THE FIRST FIELD that meets the test, of fields from field k on, and its line
pub record Told (test : Rule → List ℕ → Bool) (rules : List Rule) (k : ℕ) (fs : List (List ℕ)) (text : List ℕ) : Type 0 where
  pub place : ℕ
  pub there : place < length fs
  pub line : text ≡ field_line (k + place + 1) (rule_at rules (k + place)) (get_or fs place [])
  pub meets : test (rule_at rules (k + place)) (get_or fs place []) ≡ true
  pub none_before : (j : ℕ) → j < place → test (rule_at rules (k + j)) (get_or fs j []) ≡ false

module _ (test : Rule → List ℕ → Bool) (rules : List Rule) where
  module _ (k : ℕ) (f : List ℕ) (fs : List (List ℕ)) where
    here : test (rule_at rules k) f ≡ true → Told test rules k (f ∷ fs) (first_field test rules k (f ∷ fs))
    unfolding first_field when◌then◌else◌
    here e = record { place = 0; there = omega arith; line = rw (e, add-zero k); meets = rw (add-zero k) e; none_before = λ (j : ℕ) h. absurd (omega arith) }

    before : test (rule_at rules k) f ≡ false → (place : ℕ) → ((j : ℕ) → j < place → test (rule_at rules (k + 1 + j)) (get_or fs j []) ≡ false)
        → (j : ℕ) → j < suc place → test (rule_at rules (k + j)) (get_or (f ∷ fs) j []) ≡ false
    before e place earlier zero h = rw (add-zero k) e
    before e place earlier (suc j) h = let n : k + suc j ≡ k + 1 + j = omega arith in rw n (earlier j (omega arith))

    later : test (rule_at rules k) f ≡ false → Told test rules (k + 1) fs (first_field test rules (k + 1) fs) → Told test rules k (f ∷ fs) (first_field test rules k (f ∷ fs))
    unfolding first_field when◌then◌else◌
    later e t =
        let n : k + suc t.place ≡ k + 1 + t.place = omega arith in
        record { place = suc t.place; there = omega (arith, t.there); line = rw (e, n) t.line; meets = rw n t.meets; none_before = before e t.place t.none_before }

  pub first_told : (k : ℕ) (fs : List (List ℕ)) → any_field test rules k fs ≡ true → Told test rules k fs (first_field test rules k fs)
  unfolding any_field
  first_told k [] h = absurd (true≢false (sym h))
  first_told k (f ∷ fs) h = by (test (rule_at rules k) f) refl h (first_told (k + 1) fs)
    where
      by : (t : Bool) → test (rule_at rules k) f ≡ t → (t || any_field test rules (k + 1) fs) ≡ true
          → (any_field test rules (k + 1) fs ≡ true → Told test rules (k + 1) fs (first_field test rules (k + 1) fs)) → Told test rules k (f ∷ fs) (first_field test rules k (f ∷ fs))
      by true e h ih = here k f fs e
      by false e h ih = later k f fs e (ih h)

-- WHICH REFUSAL of several was met
abbrev pub number_by : (six : Bool) → ℕ
number_by true = 6
number_by false = 7

six_of_two : (a b : Bool) → first (met a 6) (met b 7) ≡ 6 → a ≡ true
six_of_two true b h = refl
six_of_two false true h = absurd (omega (arith, h))
six_of_two false false h = absurd (omega (arith, h))

seven_of_two : (a b : Bool) → first (met a 6) (met b 7) ≡ 7 → b ≡ true
seven_of_two true b h = absurd (omega (arith, h))
seven_of_two false true h = refl
seven_of_two false false h = absurd (omega (arith, h))

behind_five : (c : Bool) (rest number : ℕ) → (5 ≡ number → ⊥) → first (met c 5) rest ≡ number → rest ≡ number
behind_five true rest number other h = absurd (other h)
behind_five false rest number other h = h

before_eight : (a b d : Bool) (number : ℕ) → (8 ≡ number → ⊥) → first (met a 6) (first (met b 7) (met d 8)) ≡ number → first (met a 6) (met b 7) ≡ number
before_eight true b d number other h = h
before_eight false true d number other h = h
before_eight false false true number other h = absurd (other h)
before_eight false false false number other h = h

-- any other number is neither of the two
other : (number : ℕ) → (not (number =? 6) && not (number =? 7)) ≡ true → (six : Bool) → number ≡ number_by six → ⊥
other number neither true e = true≢false (sym (rw e at neither))
other number neither false e = true≢false (sym (rw e at neither))

-- of the fields of a line
fields_told : (six : Bool) (rules : List Rule) (fs : List (List ℕ)) → first (met (any_field faulty_field rules 0 fs) 6) (met (any_field outside_field rules 0 fs) 7) ≡ number_by six
    → Told (refused_by six) rules 0 fs (first_field (refused_by six) rules 0 fs)
fields_told true rules fs h = first_told faulty_field rules 0 fs (six_of_two (any_field faulty_field rules 0 fs) (any_field outside_field rules 0 fs) h)
fields_told false rules fs h = first_told outside_field rules 0 fs (seven_of_two (any_field faulty_field rules 0 fs) (any_field outside_field rules 0 fs) h)

-- BY THE RECORD, wherever the reading stands
abbrev pub form_in : Reading → Form
form_in (BeforeTime form) = form
form_in (BeforeBlocks τ form) = form
form_in (InBlock τ form b) = form

abbrev number_in : Event → ℕ
number_in (Refuse number) = number
number_in (Go r) = 0
number_in (Open r) = 0
number_in (End τ) = 0

unless_go : (number : ℕ) (r : Reading) → number ≡ number_in (unless number (Go r))
unless_go zero r = refl
unless_go (suc number) r = refl

unless_open : (number : ℕ) (r : Reading) → number ≡ number_in (unless number (Open r))
unless_open zero r = refl
unless_open (suc number) r = refl

-- A record that has fields tells one; of KK it is the name, which meets 6 alone; no other record meets 6 or 7.
abbrev pub Tells : (six : Bool) → Form → List ℕ → Record → Type 0
Tells six form l ID = ⊥
Tells six form l IT = Told (refused_by six) time_rules 0 (filled_up time_rules (fields_of form l)) (record_reason six form l IT)
Tells six form l JR = Told (refused_by six) ratio_rules 0 (ratio_fields (fields_of form l)) (record_reason six form l JR)
Tells six form l KK = six ≡ true
Tells six form l KM = ⊥
Tells six form l ZZ = ⊥
Tells six form l (Control next) = ⊥
Tells six form l (Of item) = Told (refused_by six) (rules_of item) 0 (value_fields item (fields_of form l)) (record_reason six form l (Of item))

name-told : (six t : Bool) → met t 6 ≡ number_by six → six ≡ true
name-told true t h = refl
name-told false true h = absurd (omega (arith, h))
name-told false false h = absurd (omega (arith, h))

module _ (six : Bool) (l : List ℕ) where
  abbrev Refused : Event → Type 0
  Refused e = e ≡ Refuse (number_by six)

  passed : {A : Type 0} (e : Event) → number_in e ≡ 0 → Refused e → A
  passed e go h = absurd (other 0 refl six (sym go ∙ ap number_in h))

  out_of_place : {A : Type 0} → Refused (Refuse 5) → A
  out_of_place h = absurd (other 5 refl six (ap number_in h))

  name-refused : (form : Form) (r : Reading) → Refused (unless (name_refusal (name_in form l)) (Open r)) → six ≡ true
  unfolding name_refusal
  name-refused form r h = name-told six (bad_name (name_in form l)) (unless_open (met (bad_name (name_in form l)) 6) r ∙ ap number_in h)

  time-told : (form : Form) (r : Reading) → Refused (unless (time_refusal (fields_of form l)) (Go r)) → Tells six form l IT
  unfolding time_refusal
  time-told form r h = fields_told six time_rules (filled_up time_rules (fields_of form l)) (unless_go _ r ∙ ap number_in h)

  ratios-told : (τ : Time) (form : Form) (r : Reading) → Refused (unless (ratio_refusal τ (fields_of form l)) (Go r)) → Tells six form l JR
  unfolding ratio_refusal
  ratios-told τ form r h =
      fields_told six ratio_rules (ratio_fields (fields_of form l)) (behind_five (not (empty τ.listed)) _ (number_by six) (other 5 refl six) (unless_go (ratio_refusal τ (fields_of form l)) r ∙ ap number_in h))

  item_told : (τ : Time) (form : Form) (b : Block) (item : Item) (r : Reading) → Refused (unless (item_refusal τ b item (fields_of form l)) (Go r)) → Tells six form l (Of item)
  unfolding item_refusal
  item_told τ form b item r h =
      fields_told six (rules_of item) (value_fields item (fields_of form l))
      (before_eight
      (any_field faulty_field (rules_of item) 0 (value_fields item (fields_of form l))) (any_field outside_field (rules_of item) 0 (value_fields item (fields_of form l)))
      (too_many τ item b (item_values item (fields_of form l))) (number_by six) (other 8 refl six)
      (behind_five (repeated item b) _ (number_by six) (other 5 refl six) (unless_go (item_refusal τ b item (fields_of form l)) r ∙ ap number_in h)))

  record-told : (r : Reading) (k : Record) → Refused (read_record r l k) → Tells six (form_in r) l k
  record-told (BeforeTime form) ID h = passed _ refl h
  record-told (BeforeTime form) IT h = time-told form _ h
  record-told (BeforeTime form) JR h = out_of_place h
  record-told (BeforeTime form) KK h = out_of_place h
  record-told (BeforeTime form) KM h = passed _ refl h
  record-told (BeforeTime form) ZZ h = out_of_place h
  record-told (BeforeTime form) (Control next) h = passed _ refl h
  record-told (BeforeTime form) (Of item) h = out_of_place h
  record-told (BeforeBlocks τ form) ID h = out_of_place h
  record-told (BeforeBlocks τ form) IT h = out_of_place h
  record-told (BeforeBlocks τ form) JR h = ratios-told τ form _ h
  record-told (BeforeBlocks τ form) KK h = name-refused form _ h
  record-told (BeforeBlocks τ form) KM h = passed _ refl h
  record-told (BeforeBlocks τ form) ZZ h = passed _ refl h
  record-told (BeforeBlocks τ form) (Control next) h = passed _ refl h
  record-told (BeforeBlocks τ form) (Of item) h = out_of_place h
  record-told (InBlock τ form b) ID h = out_of_place h
  record-told (InBlock τ form b) IT h = out_of_place h
  record-told (InBlock τ form b) JR h = out_of_place h
  record-told (InBlock τ form b) KK h = name-refused form _ h
  record-told (InBlock τ form b) KM h = passed _ refl h
  record-told (InBlock τ form b) ZZ h = passed _ refl h
  record-told (InBlock τ form b) (Control next) h = passed _ refl h
  record-told (InBlock τ form b) (Of item) h = item_told τ form b item _ h

  -- A LINE: it holds a record that tells why
  pub record LineTold (r : Reading) : Type 0 where
    pub holds : Record
    pub is : head_of l ≡ Holds holds
    pub tells : Tells six (form_in r) l holds

  pub refused-told : (r : Reading) → read_line r l ≡ Refuse (number_by six) → LineTold r
  unfolding read_line head_of when◌then◌else◌
  refused-told r = by (foreign l) refl (all_blank l) refl (identify l) refl
    where
      by : (t : Bool) → foreign l ≡ t → (u : Bool) → all_blank l ≡ u → (i : Identified) → identify l ≡ i
          → Refused (read_by (when t then Faulty 3 else when u then Skipped else holding i) r l) → LineTold r
      by true e u f i g h = absurd (other 3 refl six (ap number_in h))
      by false e true f i g h = passed (Go r) refl h
      by false e false f Unknown g h = absurd (other 4 refl six (ap number_in h))
      by false e false f (Known k) g h = record { holds = k; is = rw (e, f, g); tells = record-told r k h }
