-- A whole pass over a line's fields without a fault: what it kept is what refusals 6 to 8 and the block ask of the line.
--     LineRead       what is asked
--     line_faults    what refusal 6 asks of it
--     filled_split   fields with blank ones behind them, as many as are named at least
--     line_read      the pass has it, over the line's fields and blank ones behind them, as many as the record names at least
use Rattle.std.specs.Prelude.{ℕ, zero, suc, ◌+◌, ◌-◌, ◌≤◌, ◌<◌, ◌≡◌, refl, Bool, false, List, [], ◌∷◌, ◌++◌, length, take, replicate}
use Rattle.std.proofs.Common.{zero-le, sym, ap, ◌∙◌, ⊎_elim, append_assoc, arith, length-append}
use Rattle.std.proofs.lemmas.List.{length-replicate, get_or-replicate, replicate-append-replicate}
use Rattle.std.proofs.Math.ListN.{get_or-eq_default}
use Rattle.sequences.specs.Choices.{below_or_not}
use Rattle.meaning.specs.Words.{when◌then◌else◌, empty}
use Rattle.meaning.specs.Fields.{trim_end}
use Rattle.meaning.specs.Records.{Rule, Unnamed, Row, Once, Listed, Item, row_of, rules_in, lists_in, filled_up, value_fields, faulty_field, outside_field, any_field, any_faulty, any_outside, values_from}
use Rattle.records.specs.Rows.{span_in}
use Rattle.records.specs.Blanks.{fields_split, BlankPasses, BlankListed, named-sound, named_inside, blanks_split, faulty_first, filled_long, trimmed_short}
use Rattle.scanning.specs.Pass.{Scanned, scan_from, scan_outside, scan_count, scan_first, scan_length}

-- The fields that hold a record's values.
abbrev pub value_fields_in : Row → List (List ℕ) → List (List ℕ)
value_fields_in (Once identifier fields) fs = filled_up fields fs
value_fields_in (Listed identifier most each) fs = fs

-- as the definitions have them, by the record's place
pub fields_in_lem : (item : Item) (fs : List (List ℕ)) → value_fields item fs ≡ value_fields_in (row_of item) fs
unfolding value_fields when◌then◌else◌
fields_in_lem item fs = by (row_of item)
  where
    by : (row : Row) → (when lists_in row then fs else filled_up (rules_in row) fs) ≡ value_fields_in row fs
    by (Once i rules) = refl
    by (Listed i m each) = refl

pub record LineRead (row : Row) (fs : List (List ℕ)) (s : Scanned) : Type 0 where
  pub formed : any_faulty (rules_in row) 0 (value_fields_in row fs) ≡ false
  pub flag : s.outside ≡ any_outside (rules_in row) 0 (value_fields_in row fs)
  pub values : take (span_in row s.count) s.values ≡ values_from (rules_in row) 0 (value_fields_in row fs)
  pub few : s.count ≤ 10
  pub left : s.count ≡ length fs
  pub ten : length s.values ≡ 10

-- blank fields behind others are dropped with them
trim-blanks : (n : ℕ) → trim_end empty (replicate {A = List ℕ} n []) ≡ []
unfolding trim_end when◌then◌else◌
trim-blanks zero = refl
trim-blanks (suc n) = rw (trim-blanks n)

trim_append : (fs : List (List ℕ)) (n : ℕ) → trim_end empty (fs ++ replicate n []) ≡ trim_end empty fs
unfolding trim_end
trim_append [] n = trim-blanks n
trim_append (f ∷ fs) n = rw (trim_append fs n)

pub trim_trim : (fs : List (List ℕ)) → trim_end empty (trim_end empty fs) ≡ trim_end empty fs
trim_trim fs = let h = fields_split fs in sym (trim_append (trim_end empty fs) h.0) ∙ ap (trim_end empty) (sym h.1)

-- where nothing was kept before
pub record Fresh (s : Scanned) : Type 0 where
  pub none : s.count ≡ 0
  pub inside : s.outside ≡ false
  pub ten : length s.values ≡ 10

-- a list's blank field passes a test at every place
list_passes : (test : Rule → List ℕ → Bool) (each : Rule) → test Unnamed [] ≡ false → test each [] ≡ false → BlankPasses test (replicate 10 each) 0
list_passes test each unnamed blank k h =
    ⊎_elim
    (λ (i : k < 10). rw (get_or-replicate 10 k each Unnamed i) blank)
    (λ (i : 10 ≤ k).
    let l : length (replicate 10 each) ≤ k = omega arith in
    rw (get_or-eq_default (replicate 10 each) Unnamed l) unnamed)
    (below_or_not k 10)

-- the fields left with blank ones behind them are the fields filled up with blank ones behind those
module _ (rules : List Rule) (fs : List (List ℕ)) (n : ℕ) (enough : length rules ≤ length fs + n) where
  abbrev missing : ℕ
  missing = length rules - length fs

  pub filled_split : fs ++ replicate n [] ≡ filled_up rules fs ++ replicate (n - missing) []
  filled_split =
      let e : n ≡ missing + (n - missing) = omega arith in
      ap (λ (k : ℕ). fs ++ replicate k []) e
      ∙ ap (λ (l : List (List ℕ)). fs ++ l) (sym (replicate-append-replicate missing (n - missing) []))
      ∙ sym (append_assoc fs (replicate missing []) (replicate (n - missing) []))

  -- and a test that no unnamed blank field meets sees no difference
  named_split : (test : Rule → List ℕ → Bool) → BlankPasses test rules (length rules) → any_field test rules 0 (fs ++ replicate n []) ≡ any_field test rules 0 (filled_up rules fs)
  named_split test passes = ap (any_field test rules 0) filled_split ∙ blanks_split test rules (length rules) passes 0 (filled_up rules fs) (n - missing) (omega (arith, filled_long rules fs))

-- refusal 6 over the fields that a pass sees is refusal 6 over the record's
pub line_faults : (row : Row) → BlankListed row → (fs : List (List ℕ)) (n : ℕ) → span_in row 0 ≤ length fs + n
    → any_faulty (rules_in row) 0 (fs ++ replicate n []) ≡ any_faulty (rules_in row) 0 (value_fields_in row fs)
line_faults (Listed i m each) blank fs n enough = blanks_split faulty_field (replicate 10 each) 0 (list_passes faulty_field each refl blank.0) 0 fs n zero-le
line_faults (Once i rules) blank fs n enough = named_split rules fs n enough faulty_field (named-sound rules)

module _ (rules : List Rule) (ten : length rules ≤ 10) (raw : List (List ℕ)) (n : ℕ) (s : Scanned) (fresh : Fresh s) where
  abbrev fs : List (List ℕ)
  fs = trim_end empty raw

  abbrev scanned : Scanned
  scanned = scan_from rules 0 (fs ++ replicate n []) s

  counted : scanned.count ≡ length fs
  counted = scan_count rules (fs ++ replicate n []) s fresh.none ∙ ap length (trim_append fs n ∙ trim_trim raw)

  flagged : scanned.outside ≡ any_outside rules 0 (fs ++ replicate n [])
  flagged = scan_outside rules 0 (fs ++ replicate n []) s ∙ rw fresh.inside

  long : length scanned.values ≡ 10
  long = scan_length rules 0 (fs ++ replicate n []) s ∙ fresh.ten

  module _ (sound : any_faulty rules 0 (fs ++ replicate n []) ≡ false) where
    short : length fs ≤ length rules
    short = trimmed_short rules raw (faulty_first faulty_field rules 0 fs (replicate n []) sound)

    -- a record that lists values: those of the fields left
    listed-values : take scanned.count scanned.values ≡ values_from rules 0 fs
    listed-values = rw counted (scan_first rules fs (replicate n []) s (omega (arith, short)) fresh.ten)

    -- a record with named fields: those of the fields filled up
    module _ (enough : length rules ≤ length fs + n) where
      abbrev behind : ℕ
      behind = n - (length rules - length fs)

      filled-length : length (filled_up rules fs) ≡ length rules
      filled-length = length-append fs (replicate (length rules - length fs) []) ∙ rw (length-replicate {A = List ℕ} (length rules - length fs) []) (omega (arith, short))

      named_flag : scanned.outside ≡ any_outside rules 0 (filled_up rules fs)
      named_flag = flagged ∙ named_split rules fs n enough outside_field (named_inside rules)

      named-values : take (length rules) scanned.values ≡ values_from rules 0 (filled_up rules fs)
      named-values =
          ap (λ (l : List (List ℕ)). take (length rules) (scan_from rules 0 l s).values) (filled_split rules fs n enough)
          ∙ ap (λ (k : ℕ). take k (scan_from rules 0 (filled_up rules fs ++ replicate behind []) s).values) (sym filled-length)
          ∙ scan_first rules (filled_up rules fs) (replicate behind []) s (omega (arith, filled-length)) fresh.ten

-- a record that lists values, and one that stands once
pub line_read : (row : Row) → length (rules_in row) ≤ 10 → BlankListed row → (raw : List (List ℕ)) (n : ℕ) (s : Scanned) → Fresh s → span_in row 0 ≤ length (trim_end empty raw) + n
    → any_faulty (rules_in row) 0 (trim_end empty raw ++ replicate n []) ≡ false
    → LineRead row (trim_end empty raw) (scan_from (rules_in row) 0 (trim_end empty raw ++ replicate n []) s)
line_read (Listed i m each) ten blank raw n s fresh enough sound =
    let rules = replicate 10 each in
    let c = counted rules ten raw n s fresh in
    record {
      formed = sym (line_faults (Listed i m each) blank (trim_end empty raw) n enough) ∙ sound;
      flag = flagged rules ten raw n s fresh ∙ blanks_split outside_field rules 0 (list_passes outside_field each refl blank.1) 0 (trim_end empty raw) n zero-le;
      values = listed-values rules ten raw n s fresh sound;
      few = omega (arith, c, short rules ten raw n s fresh sound);
      left = c;
      ten = long rules ten raw n s fresh;
    }
line_read (Once i rules) ten blank raw n s fresh enough sound =
    let c = counted rules ten raw n s fresh in
    record {
      formed = sym (line_faults (Once i rules) blank (trim_end empty raw) n enough) ∙ sound;
      flag = named_flag rules ten raw n s fresh sound enough;
      values = named-values rules ten raw n s fresh sound enough;
      few = omega (arith, c, short rules ten raw n s fresh sound);
      left = c;
      ten = long rules ten raw n s fresh;
    }
