-- Where the reading stands, all that it has read is within the limits of the table of records: line by line.
--     TimeWithin, Within    the limits, for the time control and for the cards of an open block
--     reading_within        kept by every line
--     found_within          and so where the reading comes to
use Rattle.std.specs.Prelude.{ℕ, zero, suc, ◌+◌, ◌-◌, ◌≤◌, ◌<◌, ◌≡◌, refl, Bool, true, false, ◌&&◌, not, List, [], ◌∷◌, ◌++◌, ◌⊎◌, length, drop, get_or, set, replicate}
use Rattle.std.proofs.Common.{zero-le, ◌∙◌, true≢false, arith, eqb-true, le_refl, le_trans, inl, inr, get_or-drop, get_or-set_same, get_or-set_other, length-set, length-drop, length-append}
use Rattle.std.proofs.lemmas.Bool.{false≢true, eqb-false}
use Rattle.std.proofs.Math.Seq.{set_out}
use Rattle.std.proofs.lemmas.List.{length-replicate}
use Rattle.sequences.specs.Refusals.{neither_met, not_met}
use Rattle.sequences.specs.Choices.{below_or_not}
use Rattle.meaning.specs.Words.{◌=?◌, when◌then◌else◌, empty, met}
use Rattle.meaning.specs.Fields.{Form, fields_of, name_in}
use Rattle.meaning.specs.Records.{Item, Row, Once, Listed, table, row_of, rules_in, lists_in, Record, ID, IT, JR, KK, KM, ZZ, Control, Of, Rule, Limited, rule_at, time_rules, ratio_rules, rules_of, filled_up, value_fields, any_faulty, any_outside, values_from, bad_name, most_ordinates}
use Rattle.meaning.specs.Blocks.{Time, ratio_at, under, Card, Absent, Given, is_given, values_of, Block, card_of, opened, repeated, too_many}
use Rattle.meaning.specs.Run.{Reading, BeforeTime, BeforeBlocks, InBlock, Event, Refuse, Go, Open, End, unless, time_refusal, time_of, ratio_fields, ratio_refusal, with_ratios, name_refusal, item_values, item_refusal, with_item, read_record, read_line}
use Rattle.records.specs.Blanks.{filled_long}
use Rattle.limits.specs.Fields.{line_few, front-sound, length-values}
use Rattle.limits.specs.Limits.{highest, lowest, values_at_most, values_at_least}
use Rattle.events.specs.NextEvent.{Found, FoundHas, found_has, next_event, unless_has, line_has}

pub record TimeWithin (τ : Time) : Type 0 where
  pub some-minutes : 1 ≤ τ.minutes
  pub few-minutes : τ.minutes ≤ 1440
  pub some-ordinates : 1 ≤ τ.ordinates
  pub few_ordinates : τ.ordinates ≤ most_ordinates
  pub small-ratio : τ.ratio ≤ 999
  pub small-ratios : (k : ℕ) → get_or τ.listed k 100 ≤ 999
  pub few-ratios : length τ.listed ≤ 9

-- The rule of a value of a card, and how many fields a record has that stands once.
abbrev pub value_rule : Row → ℕ → Rule
value_rule (Once identifier fields) j = rule_at fields j
value_rule (Listed identifier most each) j = each

abbrev pub fields_in : Row → ℕ
fields_in (Once identifier fields) = length fields
fields_in (Listed identifier most each) = 0

-- No value is above its limit; those of a record that stands once, where it is there, are not below it either.
pub record CardWithin (row : Row) (c : Card) : Type 0 where
  pub high : (j : ℕ) → get_or (values_of c) j 0 ≤ highest (value_rule row j)
  pub low : is_given c ≡ true → (j : ℕ) → j < fields_in row → lowest (value_rule row j) ≤ get_or (values_of c) j 0

pub record Within (b : Block) : Type 0 where
  pub name : bad_name b.name ≡ false
  pub long : length b.cards ≡ length table
  pub cards : (item : Item) → CardWithin (row_of item) (card_of item b)

-- what an item's line that is not refused has shown
pub record Sound (τ : Time) (b : Block) (item : Item) (fs : List (List ℕ)) : Type 0 where
  pub once : repeated item b ≡ false
  pub formed : any_faulty (rules_of item) 0 (value_fields item fs) ≡ false
  pub inside : any_outside (rules_of item) 0 (value_fields item fs) ≡ false
  pub few : too_many τ item b (item_values item fs) ≡ false

pub item_sound : (τ : Time) (b : Block) (item : Item) (fs : List (List ℕ)) → item_refusal τ b item fs ≡ 0 → Sound τ b item fs
unfolding item_refusal
item_sound τ b item fs e =
    let f = neither_met _ _ e in
    let g = neither_met _ _ f.1 in
    let h = neither_met _ _ g.1 in
    record { once = not_met _ 4 f.0; formed = not_met _ 5 g.0; inside = not_met _ 6 h.0; few = not_met _ 7 h.1 }

bound_append : (m : ℕ) (xs ys : List ℕ) → ((j : ℕ) → get_or xs j 0 ≤ m) → ((j : ℕ) → get_or ys j 0 ≤ m) → (j : ℕ) → get_or (xs ++ ys) j 0 ≤ m
bound_append m [] ys f g j = g j
bound_append m (x ∷ xs) ys f g zero = f 0
bound_append m (x ∷ xs) ys f g (suc j) = bound_append m xs ys (λ (i : ℕ). f (suc i)) g j

-- the values of a record with named fields: as many as it has, each by its rule
module _ (rules : List Rule) (fs : List (List ℕ)) where
  abbrev named : List ℕ
  named = values_from rules 0 (filled_up rules fs)

absent : (c : Card) → is_given c ≡ false → values_of c ≡ []
absent Absent e = refl
absent (Given vs) e = absurd (true≢false e)

within_absent : (row : Row) → CardWithin row Absent
within_absent row = record { high = λ (j : ℕ). zero-le; low = λ z. absurd (false≢true z) }

all_absent : (n item : ℕ) → get_or (replicate n Absent) item Absent ≡ Absent
all_absent zero item = refl
all_absent (suc n) zero = refl
all_absent (suc n) (suc item) = all_absent n item

pub within_opened : (name : List ℕ) → bad_name name ≡ false → Within (opened name)
within_opened name e = record { name = e; long = length-replicate (length table) Absent; cards = λ (item : ℕ). rw (all_absent (length table) item) (within_absent (row_of item)) }

-- a card with a line's values behind those it has: one law for every record
same_rules : (n : ℕ) (r : Rule) (j : ℕ) → highest (rule_at (replicate n r) j) ≤ highest r
same_rules zero r j = zero-le
same_rules (suc n) r zero = le_refl (highest r)
same_rules (suc n) r (suc j) = same_rules n r j

pub record SoundCard (row : Row) (c : Card) (fs : List (List ℕ)) : Type 0 where
  pub once : (not (lists_in row) && is_given c) ≡ false
  pub formed : any_faulty (rules_in row) 0 (when lists_in row then fs else filled_up (rules_in row) fs) ≡ false
  pub inside : any_outside (rules_in row) 0 (when lists_in row then fs else filled_up (rules_in row) fs) ≡ false

within_card : (row : Row) (c : Card) (fs : List (List ℕ)) → SoundCard row c fs → CardWithin row c
    → CardWithin row (Given (values_of c ++ values_from (rules_in row) 0 (when lists_in row then fs else filled_up (rules_in row) fs)))
unfolding when◌then◌else◌
within_card (Once i rules) c fs s w =
    let long = filled_long rules fs in
    let at : (j : ℕ) → 0 + j ≡ j = λ (j : ℕ). omega arith in
    rw (absent c s.once)
    (record {
      high = λ (j : ℕ). let h = values_at_most rules 0 (filled_up rules fs) s.inside j in rw (at j) at h;
      low = λ z (j : ℕ) (k : j < length rules). let h = values_at_least rules 0 (filled_up rules fs) s.formed s.inside j (omega arith) in rw (at j) at h;
    })
within_card (Listed i most each) c fs s w =
    let v : (j : ℕ) → get_or (values_from (replicate 10 each) 0 fs) j 0 ≤ highest each =
    λ (j : ℕ). let h = values_at_most (replicate 10 each) 0 fs s.inside j in let t = same_rules 10 each (0 + j) in le_trans h t in
    record {
      high = bound_append (highest each) (values_of c) (values_from (replicate 10 each) 0 fs) w.high v;
      low = λ z (j : ℕ) (k : j < 0). absurd (omega arith);
    }

each_card : (cs : List Card) (item : ℕ) (c : Card) → ((p : ℕ) → CardWithin (row_of p) (get_or cs p Absent)) → CardWithin (row_of item) c
    → (p : ℕ) → CardWithin (row_of p) (get_or (set cs item c) p Absent)
each_card cs item c all new p = go (p =? item) refl (below_or_not item (length cs))
  where
    go : (t : Bool) → (p =? item) ≡ t → (item < length cs) ⊎ (length cs ≤ item) → CardWithin (row_of p) (get_or (set cs item c) p Absent)
    go true e (inl h) = rw (eqb-true p item e, get_or-set_same cs item c Absent h) new
    go true e (inr h) = rw (set_out cs item c h) (all p)
    go false e h = rw (get_or-set_other cs item p c Absent (eqb-false p item e)) (all p)

pub within_item : (τ : Time) (b : Block) (item : Item) (fs : List (List ℕ)) → Sound τ b item fs → Within b → Within (with_item item fs b)
unfolding with_item value_fields
within_item τ b item fs s w =
    record {
      name = w.name;
      long = length-set b.cards item (Given (values_of (card_of item b) ++ item_values item fs)) ∙ w.long;
      cards =
          each_card b.cards item _ w.cards
          (within_card (row_of item) (card_of item b) fs (record { once = s.once; formed = s.formed; inside = s.inside }) (w.cards item));
    }

-- WHERE THE READING STANDS
abbrev pub ReadingWithin : Reading → Type 0
ReadingWithin (BeforeTime form) = Unit
ReadingWithin (BeforeBlocks τ form) = TimeWithin τ
ReadingWithin (InBlock τ form b) = TimeWithin τ × Within b

abbrev pub EventWithin : Event → Type 0
EventWithin (Refuse number) = Unit
EventWithin (Go r) = ReadingWithin r
EventWithin (Open r) = ReadingWithin r
EventWithin (End τ) = TimeWithin τ

unless_within : (number : ℕ) (e : Event) → (number ≡ 0 → EventWithin e) → EventWithin (unless number e)
unless_within = unless_has EventWithin (λ (n : ℕ). tt)

time-read : (fs : List (List ℕ)) → time_refusal fs ≡ 0 → TimeWithin (time_of fs)
unfolding time_refusal time_of
time-read fs e =
    let f = neither_met _ _ e in
    let gs = filled_up time_rules fs in
    let long = filled_long time_rules fs in
    let m = not_met _ 5 f.0 in
    let i = not_met _ 6 f.1 in
    record {
      some-minutes = values_at_least time_rules 0 gs m i 0 (omega arith);
      few-minutes = values_at_most time_rules 0 gs i 0;
      some-ordinates = values_at_least time_rules 0 gs m i 3 (omega arith);
      few_ordinates = values_at_most time_rules 0 gs i 3;
      small-ratio = omega arith;
      small-ratios = λ (k : ℕ). omega arith;
      few-ratios = omega arith;
    }

-- each ratio that is listed is within its limits, and so is 1.00 where there is none
ratio-rules : (j : ℕ) → highest (rule_at (replicate 9 (Limited 2 1 999)) j) ≤ 999
ratio-rules j = same_rules 9 (Limited 2 1 999) j

listed_small : (vs : List ℕ) → ((j : ℕ) → get_or vs j 0 ≤ 999) → (k : ℕ) → get_or vs k 100 ≤ 999
listed_small [] h k = omega arith
listed_small (v ∷ vs) h zero = h 0
listed_small (v ∷ vs) h (suc k) = listed_small vs (λ (j : ℕ). h (suc j)) k

-- and there are no more than the rules name
listed_few : (form : Form) (l : List ℕ) → any_faulty ratio_rules 0 (ratio_fields (fields_of form l)) ≡ false → length (drop 1 (values_from ratio_rules 0 (ratio_fields (fields_of form l)))) ≤ 9
listed_few form l e =
    let fs = fields_of form l in
    let more : List (List ℕ) = replicate (2 - length fs) [] in
    let few = line_few ratio_rules form l (front-sound ratio_rules 0 fs more e) in
    let long : length more ≡ 2 - length fs = length-replicate (2 - length fs) [] in
    omega (arith, length-drop 1 (values_from ratio_rules 0 (ratio_fields fs)), length-values ratio_rules 0 (ratio_fields fs), length-append fs more)

ratios-read : (τ : Time) (form : Form) (l : List ℕ) → ratio_refusal τ (fields_of form l) ≡ 0 → TimeWithin τ → TimeWithin (with_ratios (fields_of form l) τ)
unfolding ratio_refusal with_ratios values_from
ratios-read τ form l e t =
    let fs = fields_of form l in
    let f = neither_met (met (not (empty τ.listed)) 5) _ e in
    let g = neither_met (met (any_faulty ratio_rules 0 (ratio_fields fs)) 6) (met (any_outside ratio_rules 0 (ratio_fields fs)) 7) f.1 in
    let i = not_met (any_outside ratio_rules 0 (ratio_fields fs)) 6 g.1 in
    record {
      some-minutes = t.some-minutes;
      few-minutes = t.few-minutes;
      some-ordinates = t.some-ordinates;
      few_ordinates = t.few_ordinates;
      small-ratio = t.small-ratio;
      small-ratios =
          listed_small (drop 1 (values_from ratio_rules 0 (ratio_fields fs)))
          (λ (j : ℕ).
          let at : 0 + (1 + j) ≡ suc j = omega arith in
          let h = values_at_most ratio_rules 0 (ratio_fields fs) i (1 + j) in
          rw (get_or-drop 1 (values_from ratio_rules 0 (ratio_fields fs)) j 0) (le_trans (rw at at h) (ratio-rules j)));
      few-ratios = listed_few form l (not_met (any_faulty ratio_rules 0 (ratio_fields fs)) 5 g.0);
    }

-- the time control with one of them in force
pub within_under : (τ : Time) (k : ℕ) → TimeWithin τ → TimeWithin (under (ratio_at k τ) τ)
within_under τ k t =
    record {
      some-minutes = t.some-minutes;
      few-minutes = t.few-minutes;
      some-ordinates = t.some-ordinates;
      few_ordinates = t.few_ordinates;
      small-ratio = t.small-ratios k;
      small-ratios = t.small-ratios;
      few-ratios = t.few-ratios;
    }

named_within : (τ : Time) (form : Form) (name : List ℕ) → TimeWithin τ → EventWithin (unless (name_refusal name) (Open (InBlock τ form (opened name))))
unfolding name_refusal
named_within τ form name t =
    unless_within (met (bad_name name) 6) (Open (InBlock τ form (opened name))) (λ e. (t, within_opened name (not_met (bad_name name) 5 e)))

record_within : (r : Reading) (l : List ℕ) (k : Record) → ReadingWithin r → EventWithin (read_record r l k)
record_within (BeforeTime form) l ID w = tt
record_within (BeforeTime form) l IT w = unless_within _ _ (λ e. time-read (fields_of form l) e)
record_within (BeforeTime form) l JR w = tt
record_within (BeforeTime form) l KK w = tt
record_within (BeforeTime form) l KM w = tt
record_within (BeforeTime form) l ZZ w = tt
record_within (BeforeTime form) l (Control next) w = tt
record_within (BeforeTime form) l (Of item) w = tt
record_within (BeforeBlocks τ form) l ID w = tt
record_within (BeforeBlocks τ form) l IT w = tt
record_within (BeforeBlocks τ form) l JR w = unless_within _ _ (λ e. ratios-read τ form l e w)
record_within (BeforeBlocks τ form) l KK w = named_within τ form (name_in form l) w
record_within (BeforeBlocks τ form) l KM w = w
record_within (BeforeBlocks τ form) l ZZ w = w
record_within (BeforeBlocks τ form) l (Control next) w = w
record_within (BeforeBlocks τ form) l (Of item) w = tt
record_within (InBlock τ form b) l ID w = tt
record_within (InBlock τ form b) l IT w = tt
record_within (InBlock τ form b) l JR w = tt
record_within (InBlock τ form b) l KK w = named_within τ form (name_in form l) w.0
record_within (InBlock τ form b) l KM w = w
record_within (InBlock τ form b) l ZZ w = w.0
record_within (InBlock τ form b) l (Control next) w = w
record_within (InBlock τ form b) l (Of item) w =
    unless_within (item_refusal τ b item (fields_of form l)) (Go (InBlock τ form (with_item item (fields_of form l) b)))
    (λ e. (w.0, within_item τ b item (fields_of form l) (item_sound τ b item (fields_of form l) e) w.1))

pub reading_within : (r : Reading) (l : List ℕ) → ReadingWithin r → EventWithin (read_line r l)
reading_within r l w = line_has EventWithin (λ (n : ℕ). tt) r w (λ (l : List ℕ) (k : Record). record_within r l k w) l

abbrev pub FoundWithin : Found → Type 0
FoundWithin = FoundHas ReadingWithin (λ (e : Event) (r : Reading). EventWithin e)

pub found_within : (ls : List (List ℕ)) (r : Reading) (line : ℕ) → ReadingWithin r → FoundWithin (next_event ls r line)
found_within = found_has ReadingWithin (λ (e : Event) (r : Reading). EventWithin e) reading_within (λ (r next : Reading) w. w)
