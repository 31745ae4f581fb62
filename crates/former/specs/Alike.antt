-- Two number readers, of which the new one keeps every value of the old one: a deck comes to the same by both, unless the old one refuses it by 6.
--     worked_alike      what a deck comes to, under every ratio or under one
--     outcomes_alike    its outcome
-- The idea: line by line. Either the old reading refuses the line by 6, and that is the outcome; or no field of it was malformed, so that every value is the same, and with
-- the values what the line does. Then the walk goes on from the same place. What a refusal by 6 has before it (5) and what looks at no number is the same by both.
use Rattle.std.specs.Prelude.{ℕ, zero, suc, ◌+◌, ◌≡◌, Bool, not, ◌⊎◌}
use Rattle.std.proofs.Math.Path.{refl}
use Rattle.std.proofs.Common.{ap, ap₂, inl}
use Rattle.std.proofs.Math.Bool.{true, false}
use Rattle.std.proofs.Math.Logic.{inr}
use mathlib.Core.List.{List, [], ◌∷◌}
use Rattle.std.proofs.Math.ListN.{length, drop}
use Rattle.sequences.specs.Choices.{both_fail}
use Rattle.meaning.specs.Words.{◌<?◌, when◌then◌else◌, empty, met, first}
use Rattle.meaning.specs.Lines.{lines_of}
use Rattle.meaning.specs.Fields.{Fixed, fields_of}
use Rattle.meaning.specs.Numbers.{Number, in_units}
use Rattle.meaning.specs.Records.{Record, ID, IT, JR, KK, KM, ZZ, Control, Of, Rule, Unnamed, NotRead, Limited, Worded, time_rules, ratio_rules, rules_of, filled_up, value_fields, is_malformed, rule_at, any_field}
use Rattle.meaning.specs.Blocks.{repeated, too_many, with_values}
use Rattle.meaning.specs.Run.{Head, Faulty, Skipped, Holds, head_of, Reading, BeforeTime, BeforeBlocks, InBlock, Event, Refuse, Go, unless, time_by, ratio_fields, Standing, nothing_yet, Which, Every, Worked, Stopped, Step, Stop, Next, act, and_then, Lent, Outcome, refused, settled, work_size, deck_size}
use Rattle.former.specs.ByReader.{faulty_by, outside_by, value_by, any_faulty_by, any_outside_by, values_by, time_refusal_by, time_of_by, ratio_refusal_by, with_ratios_by, item_refusal_by, with_item_by, read_record_by, read_head_by, read_line_by, walk_by, worked_under_by, outcome_by}

-- ALIKE: the first is a refusal by 6, with some line; or the two are the same
abbrev pub Alike : {A : Type 0} → (six : ℕ → A) → A → A → Type 0
Alike six a b = ((line : ℕ) × (a ≡ six line)) ⊎ (a ≡ b)

-- an event has no line yet
abbrev EventsAlike : Event → Event → Type 0
EventsAlike d e = (d ≡ Refuse 6) ⊎ (d ≡ e)

-- a refusal that both meet, or none, before what is alike
before_alike : (n m m' : ℕ) (d e : Event) → EventsAlike (unless m d) (unless m' e) → EventsAlike (unless (first n m) d) (unless (first n m') e)
before_alike zero m m' d e h = h
before_alike (suc n) m m' d e h = inr refl

-- refusal 6 by the old one; or by neither, and all behind it is the same
six_alike : (t t' : Bool) (m m' : ℕ) (d e : Event) → (t ≡ false → (t' ≡ false) × (m ≡ m') × (d ≡ e)) → EventsAlike (unless (first (met t 6) m) d) (unless (first (met t' 6) m') e)
six_alike true t' m m' d e h = inl refl
six_alike false t' m m' d e h = let same = h refl in inr (rw same.0 (ap₂ unless same.1 same.2))

-- What a line does by its fields: it is refused by 6, or later by what is outside its limits and by the values, or does what it does with the values.
abbrev event_by : (read : List ℕ → Number) (rules : List Rule) (fs : List (List ℕ)) (later : Bool → List ℕ → ℕ) (does : List ℕ → Event) → Event
event_by read rules fs later does =
    let vs = values_by read rules 0 fs in
    unless (first (met (any_faulty_by read rules 0 fs) 6) (later (any_outside_by read rules 0 fs) vs)) (does vs)

module _ (old new : List ℕ → Number) (keeps : (allowed : ℕ) (f : List ℕ) → is_malformed (in_units allowed (old f)) ≡ false → in_units allowed (new f) ≡ in_units allowed (old f)) where
  -- A FIELD, and A LINE of fields, that the old reader does not refuse by 6: neither does the new one, and it tells the same values and the same ones outside their limits
  same_field : (rule : Rule) (f : List ℕ) → faulty_by old rule f ≡ false
      → (faulty_by new rule f ≡ false) × (outside_by old rule f ≡ outside_by new rule f) × (value_by old rule f ≡ value_by new rule f)
  same_field Unnamed f h = (h, refl, refl)
  same_field NotRead f h = (h, refl, refl)
  same_field (Limited places low high) f h = let e = keeps places f h in (rw e h, rw e, rw e)
  same_field (Worded refusal most low high) f h = (h, refl, refl)

  same_line : (rules : List Rule) (k : ℕ) (fs : List (List ℕ)) → any_faulty_by old rules k fs ≡ false
      → (any_faulty_by new rules k fs ≡ false) × (any_outside_by old rules k fs ≡ any_outside_by new rules k fs) × (values_by old rules k fs ≡ values_by new rules k fs)
  unfolding any_field values_by
  same_line rules k [] h = (refl, refl, refl)
  same_line rules k (f ∷ fs) h =
      let each = both_fail (faulty_by old (rule_at rules k) f) (any_faulty_by old rules (k + 1) fs) h in
      let here = same_field (rule_at rules k) f each.0 in
      let rest = same_line rules (k + 1) fs each.1 in
      (rw here.0 rest.0, rw (here.1, rest.1), rw (here.2, rest.2))

  fields_alike : (rules : List Rule) (fs : List (List ℕ)) (later : Bool → List ℕ → ℕ) (does : List ℕ → Event)
      → EventsAlike (event_by old rules fs later does) (event_by new rules fs later does)
  fields_alike rules fs later does =
      six_alike (any_faulty_by old rules 0 fs) (any_faulty_by new rules 0 fs) _ _ _ _
      (λ h. let same = same_line rules 0 fs h in (same.0, ap₂ later same.1 same.2, ap does same.2))

  -- WHAT A LINE DOES: IT, JR and a record of a block by their fields, all else whatever the reader
  record_alike : (r : Reading) (l : List ℕ) (k : Record) → EventsAlike (read_record_by old r l k) (read_record_by new r l k)
  unfolding time_refusal_by time_of_by ratio_refusal_by with_ratios_by item_refusal_by with_item_by
  record_alike (BeforeTime form) l ID = inr refl
  record_alike (BeforeTime form) l IT =
      fields_alike time_rules (filled_up time_rules (fields_of form l)) (λ outside vs. met outside 7) (λ vs. Go (BeforeBlocks (time_by vs) form))
  record_alike (BeforeTime form) l JR = inr refl
  record_alike (BeforeTime form) l KK = inr refl
  record_alike (BeforeTime form) l KM = inr refl
  record_alike (BeforeTime form) l ZZ = inr refl
  record_alike (BeforeTime form) l (Control next) = inr refl
  record_alike (BeforeTime form) l (Of item) = inr refl
  record_alike (BeforeBlocks τ form) l ID = inr refl
  record_alike (BeforeBlocks τ form) l IT = inr refl
  record_alike (BeforeBlocks τ form) l JR =
      before_alike (met (not (empty τ.listed)) 5) _ _ _ _
      (fields_alike ratio_rules (ratio_fields (fields_of form l)) (λ outside vs. met outside 7)
      (λ vs. Go (BeforeBlocks (record { minutes = τ.minutes; ordinates = τ.ordinates; ratio = τ.ratio; listed = drop 1 vs }) form)))
  record_alike (BeforeBlocks τ form) l KK = inr refl
  record_alike (BeforeBlocks τ form) l KM = inr refl
  record_alike (BeforeBlocks τ form) l ZZ = inr refl
  record_alike (BeforeBlocks τ form) l (Control next) = inr refl
  record_alike (BeforeBlocks τ form) l (Of item) = inr refl
  record_alike (InBlock τ form b) l ID = inr refl
  record_alike (InBlock τ form b) l IT = inr refl
  record_alike (InBlock τ form b) l JR = inr refl
  record_alike (InBlock τ form b) l KK = inr refl
  record_alike (InBlock τ form b) l KM = inr refl
  record_alike (InBlock τ form b) l ZZ = inr refl
  record_alike (InBlock τ form b) l (Control next) = inr refl
  record_alike (InBlock τ form b) l (Of item) =
      before_alike (met (repeated item b) 5) _ _ _ _
      (fields_alike (rules_of item) (value_fields item (fields_of form l))
      (λ outside vs. first (met outside 7) (met (too_many τ item b vs) 8)) (λ vs. Go (InBlock τ form (with_values item vs b))))

  head_alike : (h : Head) (r : Reading) (l : List ℕ) → EventsAlike (read_head_by old h r l) (read_head_by new h r l)
  head_alike (Faulty number) r l = inr refl
  head_alike Skipped r l = inr refl
  head_alike (Holds k) r l = record_alike r l k

  line_alike : (r : Reading) (l : List ℕ) → EventsAlike (read_line_by old r l) (read_line_by new r l)
  unfolding read_line_by
  line_alike r l = head_alike (head_of l) r l

  -- THE WALK goes on from the same place
  module _ (which : Which) where
    step_alike : (step : Step) (go go' : Reading → Standing → Worked) → ((r : Reading) (s : Standing) → Alike (Stopped 6) (go r s) (go' r s))
        → Alike (Stopped 6) (and_then step go) (and_then step go')
    step_alike (Stop w) go go' h = inr refl
    step_alike (Next r s) go go' h = h r s

    event_alike : (d e : Event) (r : Reading) (s : Standing) (line : ℕ) (go go' : Reading → Standing → Worked) → EventsAlike d e
        → ((r : Reading) (s : Standing) → Alike (Stopped 6) (go r s) (go' r s)) → Alike (Stopped 6) (and_then (act which d r s line) go) (and_then (act which e r s line) go')
    event_alike d e r s line go go' (inl six) h = inl (line, rw six)
    event_alike d e r s line go go' (inr same) h = rw same (step_alike (act which e r s line) go go' h)

    walk_alike : (ls : List (List ℕ)) (r : Reading) (s : Standing) (line : ℕ) → Alike (Stopped 6) (walk_by old which ls r s line) (walk_by new which ls r s line)
    unfolding walk_by
    walk_alike [] r s line = inr refl
    walk_alike (l ∷ ls) r s line =
        event_alike (read_line_by old r l) (read_line_by new r l) r s line _ _ (line_alike r l) (λ (r' : Reading) (s' : Standing). walk_alike ls r' s' (line + 1))

    pub worked_alike : (deck : List ℕ) → Alike (Stopped 6) (worked_under_by old which deck) (worked_under_by new which deck)
    unfolding worked_under_by
    worked_alike deck = walk_alike (lines_of deck) (BeforeTime Fixed) nothing_yet 1

  -- WHAT COMES BACK: 1 and 2 look at sizes alone, and 17 at what was worked
  module _ (named ratio : ℕ) (lent : Lent) where
    abbrev six : ℕ → Outcome
    six line = refused 6 line lent

    settled_alike : (w w' : Worked) → Alike (Stopped 6) w w' → Alike six (settled named ratio lent w) (settled named ratio lent w')
    settled_alike w w' (inl stopped) = inl (stopped.0, rw stopped.1)
    settled_alike w w' (inr same) = inr (rw same)

    size_alike : (t : Bool) (o o' o'' : Outcome) → Alike six o o' → Alike six (when t then o'' else o) (when t then o'' else o')
    unfolding when◌then◌else◌
    size_alike true o o' o'' h = inr refl
    size_alike false o o' o'' h = h

    pub outcomes_alike : (deck : List ℕ) → Alike six (outcome_by old deck named ratio lent) (outcome_by new deck named ratio lent)
    unfolding outcome_by
    outcomes_alike deck =
        size_alike (lent.work <? work_size) _ _ _
        (size_alike (deck_size <? length deck) _ _ _
        (settled_alike (worked_under_by old Every deck) (worked_under_by new Every deck) (worked_alike Every deck)))
