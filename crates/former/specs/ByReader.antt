-- The reading of decks with the number reader left open: the definitions of meaning/specs/Records and Run that look at a number, over any reader. All else is used as it
-- stands there. With `number_of` they are those definitions (Followed), and with `former_number` what they were.
use Rattle.std.specs.Prelude.{ℕ, ◌+◌, Bool, not, List, [], ◌∷◌, length, drop}
use Rattle.meaning.specs.Words.{◌<?◌, when◌then◌else◌, empty, met, first}
use Rattle.meaning.specs.Lines.{lines_of}
use Rattle.meaning.specs.Fields.{Fixed, fields_of}
use Rattle.meaning.specs.Numbers.{Number, in_units}
use Rattle.meaning.specs.Records.{Item, Record, ID, IT, JR, KK, KM, ZZ, Control, Of, Rule, Unnamed, NotRead, Limited, Worded, time_rules, ratio_rules, rules_of, filled_up, value_fields, is_malformed, is_outside, units_of, faulty_field, outside_field, value_of, rule_at, any_field}
use Rattle.meaning.specs.Blocks.{Time, Block, repeated, too_many, with_values}
use Rattle.meaning.specs.Run.{Head, Faulty, Skipped, Holds, head_of, Reading, BeforeTime, BeforeBlocks, InBlock, Event, Refuse, Go, unless, time_by, ratio_fields, read_record, Standing, nothing_yet, Which, Every, Worked, Stopped, act, and_then, Lent, Outcome, refused, settled, work_size, deck_size}

module _ (read : List ℕ → Number) where
  -- Refusal 6 at one field, refusal 7, and its value.
  abbrev pub faulty_by : Rule → List ℕ → Bool
  faulty_by Unnamed f = faulty_field Unnamed f
  faulty_by NotRead f = faulty_field NotRead f
  faulty_by (Limited places low high) f = is_malformed (in_units places (read f))
  faulty_by (Worded refusal most low high) f = faulty_field (Worded refusal most low high) f

  abbrev pub outside_by : Rule → List ℕ → Bool
  outside_by Unnamed f = outside_field Unnamed f
  outside_by NotRead f = outside_field NotRead f
  outside_by (Limited places low high) f = is_outside low high (in_units places (read f))
  outside_by (Worded refusal most low high) f = outside_field (Worded refusal most low high) f

  abbrev pub value_by : Rule → List ℕ → ℕ
  value_by Unnamed f = value_of Unnamed f
  value_by NotRead f = value_of NotRead f
  value_by (Limited places low high) f = units_of (in_units places (read f))
  value_by (Worded refusal most low high) f = value_of (Worded refusal most low high) f

  -- The same over a line's fields, from field k on.
  abbrev pub any_faulty_by : List Rule → ℕ → List (List ℕ) → Bool
  any_faulty_by rules k fs = any_field faulty_by rules k fs

  abbrev pub any_outside_by : List Rule → ℕ → List (List ℕ) → Bool
  any_outside_by rules k fs = any_field outside_by rules k fs

  unfoldable pub values_by : List Rule → ℕ → List (List ℕ) → List ℕ
  values_by rules k [] = []
  values_by rules k (f ∷ fs) = value_by (rule_at rules k) f ∷ values_by rules (k + 1) fs

  -- IT.
  unfoldable pub time_refusal_by : List (List ℕ) → ℕ
  time_refusal_by fs = first (met (any_faulty_by time_rules 0 (filled_up time_rules fs)) 6) (met (any_outside_by time_rules 0 (filled_up time_rules fs)) 7)

  unfoldable pub time_of_by : List (List ℕ) → Time
  time_of_by fs = time_by (values_by time_rules 0 (filled_up time_rules fs))

  -- JR.
  unfoldable pub ratio_refusal_by : Time → List (List ℕ) → ℕ
  ratio_refusal_by τ fs =
      first (met (not (empty τ.listed)) 5)
      (first (met (any_faulty_by ratio_rules 0 (ratio_fields fs)) 6)
      (met (any_outside_by ratio_rules 0 (ratio_fields fs)) 7))

  unfoldable pub with_ratios_by : List (List ℕ) → Time → Time
  with_ratios_by fs τ =
      record { minutes = τ.minutes; ordinates = τ.ordinates; ratio = τ.ratio; listed = drop 1 (values_by ratio_rules 0 (ratio_fields fs)) }

  -- A record that a block holds.
  abbrev pub item_values_by : Item → List (List ℕ) → List ℕ
  item_values_by item fs = values_by (rules_of item) 0 (value_fields item fs)

  unfoldable pub item_refusal_by : Time → Block → Item → List (List ℕ) → ℕ
  item_refusal_by τ b item fs =
      first (met (repeated item b) 5)
      (first (met (any_faulty_by (rules_of item) 0 (value_fields item fs)) 6)
      (first (met (any_outside_by (rules_of item) 0 (value_fields item fs)) 7)
      (met (too_many τ item b (item_values_by item fs)) 8)))

  unfoldable pub with_item_by : Item → List (List ℕ) → Block → Block
  with_item_by item fs b = with_values item (item_values_by item fs) b

  -- What stands where: IT before IT, JR before the blocks and a record in a block have numbers in their fields.
  abbrev pub read_record_by : Reading → List ℕ → Record → Event
  read_record_by (BeforeTime form) l ID = read_record (BeforeTime form) l ID
  read_record_by (BeforeTime form) l IT = unless (time_refusal_by (fields_of form l)) (Go (BeforeBlocks (time_of_by (fields_of form l)) form))
  read_record_by (BeforeTime form) l JR = read_record (BeforeTime form) l JR
  read_record_by (BeforeTime form) l KK = read_record (BeforeTime form) l KK
  read_record_by (BeforeTime form) l KM = read_record (BeforeTime form) l KM
  read_record_by (BeforeTime form) l ZZ = read_record (BeforeTime form) l ZZ
  read_record_by (BeforeTime form) l (Control next) = read_record (BeforeTime form) l (Control next)
  read_record_by (BeforeTime form) l (Of item) = read_record (BeforeTime form) l (Of item)
  read_record_by (BeforeBlocks τ form) l ID = read_record (BeforeBlocks τ form) l ID
  read_record_by (BeforeBlocks τ form) l IT = read_record (BeforeBlocks τ form) l IT
  read_record_by (BeforeBlocks τ form) l JR = unless (ratio_refusal_by τ (fields_of form l)) (Go (BeforeBlocks (with_ratios_by (fields_of form l) τ) form))
  read_record_by (BeforeBlocks τ form) l KK = read_record (BeforeBlocks τ form) l KK
  read_record_by (BeforeBlocks τ form) l KM = read_record (BeforeBlocks τ form) l KM
  read_record_by (BeforeBlocks τ form) l ZZ = read_record (BeforeBlocks τ form) l ZZ
  read_record_by (BeforeBlocks τ form) l (Control next) = read_record (BeforeBlocks τ form) l (Control next)
  read_record_by (BeforeBlocks τ form) l (Of item) = read_record (BeforeBlocks τ form) l (Of item)
  read_record_by (InBlock τ form b) l ID = read_record (InBlock τ form b) l ID
  read_record_by (InBlock τ form b) l IT = read_record (InBlock τ form b) l IT
  read_record_by (InBlock τ form b) l JR = read_record (InBlock τ form b) l JR
  read_record_by (InBlock τ form b) l KK = read_record (InBlock τ form b) l KK
  read_record_by (InBlock τ form b) l KM = read_record (InBlock τ form b) l KM
  read_record_by (InBlock τ form b) l ZZ = read_record (InBlock τ form b) l ZZ
  read_record_by (InBlock τ form b) l (Control next) = read_record (InBlock τ form b) l (Control next)
  read_record_by (InBlock τ form b) l (Of item) =
      unless (item_refusal_by τ b item (fields_of form l)) (Go (InBlock τ form (with_item_by item (fields_of form l) b)))

  abbrev pub read_head_by : Head → Reading → List ℕ → Event
  read_head_by (Faulty number) r l = Refuse number
  read_head_by Skipped r l = Go r
  read_head_by (Holds record') r l = read_record_by r l record'

  unfoldable pub read_line_by : Reading → List ℕ → Event
  read_line_by r l = read_head_by (head_of l) r l

  -- The walk over the lines, and what comes back.
  unfoldable pub walk_by : Which → List (List ℕ) → Reading → Standing → ℕ → Worked
  walk_by which [] r s line = Stopped 16 0
  walk_by which (l ∷ ls) r s line = and_then (act which (read_line_by r l) r s line) (λ (r' : Reading) (s' : Standing). walk_by which ls r' s' (line + 1))

  unfoldable pub worked_under_by : Which → List ℕ → Worked
  worked_under_by which deck = walk_by which (lines_of deck) (BeforeTime Fixed) nothing_yet 1

  unfoldable pub outcome_by : List ℕ → (named ratio : ℕ) → Lent → Outcome
  outcome_by deck named ratio lent =
      when lent.work <? work_size then refused 1 0 lent else
      when deck_size <? length deck then refused 2 0 lent else
      settled named ratio lent (worked_under_by Every deck)
