-- What JR's fields say, from what the pass over them kept. The pass holds a ratio of 0 to be within its limits and fills all ten fields up, the definition neither.
--     ratio_faults     refusal 6 is the same by either
--     ratio_outside    the pass met a value outside its limits: refusal 7
--     ratio_number     it met none: refusal 7 where no ratio is there, or a 0 among them
--     ratio-listed     the ratios are what the pass kept behind the word
use Rattle.std.specs.Prelude.{ℕ, zero, suc, ◌+◌, ◌-◌, ◌≤◌, ◌<◌, ◌≡◌, refl, Bool, true, false, ◌||◌, List, [], ◌∷◌, ◌++◌, length, take, drop, get_or, replicate}
use Rattle.std.proofs.Common.{sym, ap, ◌∙◌, true≢false, append-nil, arith, add-one, lt-ltb, le-ltb, ltb-false, eq-eqb, ne_eqb, length-append, drop_of_length-le, take-take, drop-cons}
use Rattle.std.specs.List.{list_any}
use Rattle.std.proofs.Math.Bool.{or_assoc, or-false, or-true}
use Rattle.std.proofs.lemmas.List.{length-replicate, get_or-replicate}
use Rattle.sequences.specs.Choices.{both_fail}
use Rattle.sequences.specs.Parts.{part}
use Rattle.meaning.specs.Words.{◌=?◌, ◌<?◌, when◌then◌else◌, empty, met}
use Rattle.meaning.specs.Numbers.{Value, Malformed, Negative, Units, number_of, in_units}
use Rattle.meaning.specs.Records.{Rule, Unnamed, Limited, only, ratio_rules, rule_at, filled_up, is_malformed, is_outside, units_of, faulty_field, outside_field, value_of, any_field, any_faulty, any_outside, values_from}
use Rattle.meaning.specs.Blocks.{Time}
use Rattle.meaning.specs.Run.{ratio_fields, ratio_refusal}
use Rattle.records.specs.Rows.{items, field_row, ratio_scan}
use Rattle.records.specs.Blanks.{BlankPasses, blanks_split}
use Rattle.scanning.specs.Pass.{Scanned}
use Rattle.scanning.specs.WholeLine.{filled_split, LineRead}

abbrev pub any_zero : List ℕ → Bool
any_zero vs = list_any (λ v. v =? 0) vs

-- by its first element
module _ (vs : List ℕ) (i : ℕ) where
  module _ (h : i < length vs) where
    pub zero-here : get_or vs i 0 ≡ 0 → any_zero (drop i vs) ≡ true
    zero-here e = rw (drop-cons vs i 0 h, eq-eqb _ _ e)

    pub zero-later : (get_or vs i 0 ≡ 0 → ⊥) → any_zero (drop i vs) ≡ any_zero (drop (i + 1) vs)
    zero-later e = rw (add-one, drop-cons vs i 0 h, ne_eqb _ _ e)

  pub zero_nowhere : length vs ≤ i → any_zero (drop i vs) ≡ false
  zero_nowhere h = rw (drop_of_length-le vs h)

-- the ratios that the pass kept: those behind the word, up to the last field that is not blank
abbrev pub kept_ratios : (count : ℕ) → List ℕ → List ℕ
kept_ratios count values = part 1 (count - 1) values

-- and whether there is none, or one of them is 0
abbrev pub no_ratio : (count : ℕ) → List ℕ → Bool
no_ratio count values = (count <? 2) || any_zero (kept_ratios count values)

pub none_there : (count : ℕ) (values : List ℕ) → count < 2 → no_ratio count values ≡ true
none_there count values h = rw (lt-ltb count 2 h)

pub some_there : (count : ℕ) (values : List ℕ) → 2 ≤ count → no_ratio count values ≡ any_zero (kept_ratios count values)
some_there count values h = rw (le-ltb count 2 h)

-- BY EITHER RULE: what holds of the rules of a ratio holds place by place
alike : (T : Rule → Rule → Type 0) → T Unnamed Unnamed → (r q : Rule) → T r q → (n k : ℕ) → T (rule_at (replicate n r) k) (rule_at (replicate n q) k)
alike T none r q same zero k = none
alike T none r q same (suc n) zero = same
alike T none r q same (suc n) (suc k) = alike T none r q same n k

by_either : (T : Rule → Rule → Type 0) → T Unnamed Unnamed → T (only 6 "PREC") (only 6 "PREC") → T (Limited 2 1 999) (Limited 2 0 999)
    → (k : ℕ) → T (rule_at ratio_rules k) (rule_at ratio_scan k)
by_either T none word same zero = word
by_either T none word same (suc k) = alike T none (Limited 2 1 999) (Limited 2 0 999) same 9 k

same_faults : (k : ℕ) (fs : List (List ℕ)) → any_faulty ratio_rules k fs ≡ any_faulty ratio_scan k fs
unfolding any_field
same_faults k [] = refl
same_faults k (f ∷ fs) =
    let here = by_either (λ (r q : Rule). faulty_field r f ≡ faulty_field q f) refl refl refl k in
    rw (here, same_faults (k + 1) fs)

same_values : (k : ℕ) (fs : List (List ℕ)) → values_from ratio_rules k fs ≡ values_from ratio_scan k fs
unfolding values_from
same_values k [] = refl
same_values k (f ∷ fs) =
    let here = by_either (λ (r q : Rule). value_of r f ≡ value_of q f) refl refl refl k in
    rw (here, same_values (k + 1) fs)

-- BEHIND THE WORD a blank field passes
blank_passes : (test : Rule → List ℕ → Bool) → test Unnamed [] ≡ false → test (Limited 2 0 999) [] ≡ false → BlankPasses test ratio_scan 1
blank_passes test none same zero h = absurd (omega arith)
blank_passes test none same (suc k) h = alike (λ (r q : Rule). test q [] ≡ false) none (Limited 2 0 999) (Limited 2 0 999) same 9 k

fields_long : (fs : List (List ℕ)) → length (ratio_fields fs) ≡ length fs + (2 - length fs)
fields_long fs = length-append fs (replicate (2 - length fs) []) ∙ rw (length-replicate {A = List ℕ} (2 - length fs) [])

same_blanks : (test : Rule → List ℕ → Bool) → test Unnamed [] ≡ false → test (Limited 2 0 999) [] ≡ false → (fs : List (List ℕ))
    → any_field test ratio_scan 0 (filled_up ratio_scan fs) ≡ any_field test ratio_scan 0 (ratio_fields fs)
same_blanks test none same fs =
    let n = length ratio_scan - length fs in
    ap (any_field test ratio_scan 0) (filled_split (take 2 ratio_scan) fs n (omega arith))
    ∙ blanks_split test ratio_scan 1 (blank_passes test none same) 0 (ratio_fields fs) (n - (2 - length fs)) (omega (arith, fields_long fs))

pub ratio_faults : (fs : List (List ℕ)) → any_faulty ratio_rules 0 (ratio_fields fs) ≡ any_faulty ratio_scan 0 (filled_up ratio_scan fs)
unfolding number_of in_units when◌then◌else◌
ratio_faults fs = same_faults 0 (ratio_fields fs) ∙ sym (same_blanks faulty_field refl refl fs)

scan_limits : (fs : List (List ℕ)) → any_outside ratio_scan 0 (filled_up ratio_scan fs) ≡ any_outside ratio_scan 0 (ratio_fields fs)
unfolding number_of in_units when◌then◌else◌
scan_limits fs = same_blanks outside_field refl refl fs

-- A RATIO OF 0 is all that the pass lets through
zero_value : (v : Value) → is_malformed v ≡ false → is_outside 1 999 v ≡ (is_outside 0 999 v || (units_of v =? 0))
zero_value Malformed m = absurd (true≢false m)
zero_value Negative m = refl
zero_value (Units zero) m = refl
zero_value (Units (suc v)) m =
    rw (le-ltb (suc v) 1 (omega arith), le-ltb (suc v) 0 (omega arith), ne_eqb (suc v) 0 (λ e. omega arith)) (sym (or-false (999 <? suc v)))

ratio-rule : (places low high k : ℕ) → (k ≡ 0 → ⊥) → k < 10 → rule_at (only 6 "PREC" ∷ replicate 9 (Limited places low high)) k ≡ Limited places low high
ratio-rule places low high zero some few = absurd (some refl)
ratio-rule places low high (suc k) some few = get_or-replicate 9 k (Limited places low high) Unnamed (omega arith)

-- two tests at a field and at those behind it
or_swap : (a z b y : Bool) → ((a || z) || (b || y)) ≡ ((a || b) || (z || y))
or_swap true z b y = refl
or_swap false true b y = sym (or-true b)
or_swap false false b y = refl

zeros : (k : ℕ) (fs : List (List ℕ)) → (k ≡ 0 → ⊥) → k + length fs ≤ 10 → any_faulty ratio_scan k fs ≡ false
    → any_outside ratio_rules k fs ≡ (any_outside ratio_scan k fs || any_zero (values_from ratio_scan k fs))
unfolding any_field values_from
zeros k [] some few sound = refl
zeros k (f ∷ fs) some few sound =
    let one = ratio-rule 2 1 999 k some (omega arith) in
    let none = ratio-rule 2 0 999 k some (omega arith) in
    let h = both_fail (faulty_field (rule_at ratio_scan k) f) (any_faulty ratio_scan (k + 1) fs) sound in
    let v = in_units 2 (number_of f) in
    let formed : is_malformed v ≡ false = rw none at h.0 in
    rw (one, none, zero_value v formed, zeros (k + 1) fs (λ e. omega arith) (omega arith) h.1)
    (or_swap (is_outside 0 999 v) (units_of v =? 0) (any_outside ratio_scan (k + 1) fs) (any_zero (values_from ratio_scan (k + 1) fs)))

zeros-behind : (gs : List (List ℕ)) → length gs ≤ 10 → any_faulty ratio_scan 0 gs ≡ false
    → any_outside ratio_rules 0 gs ≡ (any_outside ratio_scan 0 gs || any_zero (drop 1 (values_from ratio_scan 0 gs)))
unfolding any_field values_from
zeros-behind [] few sound = refl
zeros-behind (g ∷ gs) few sound =
    let word = rule_at ratio_scan 0 in
    let behind = zeros (0 + 1) gs (λ e. omega arith) (omega arith) (both_fail (faulty_field word g) (any_faulty ratio_scan (0 + 1) gs) sound).1 in
    rw behind (sym (or_assoc (outside_field word g) (any_outside ratio_scan (0 + 1) gs) (any_zero (values_from ratio_scan (0 + 1) gs))))

-- THE VALUES of the first fields are the first of the values
values-front : (k : ℕ) (fs gs : List (List ℕ)) → take (length fs) (values_from ratio_scan k (fs ++ gs)) ≡ values_from ratio_scan k fs
unfolding values_from
values-front k [] gs = refl
values-front k (f ∷ fs) gs = ap (λ (vs : List ℕ). value_of (rule_at ratio_scan k) f ∷ vs) (values-front (k + 1) fs gs)

drop-take : (n : ℕ) (xs : List ℕ) → drop 1 (take (suc n) xs) ≡ take n (drop 1 xs)
drop-take zero [] = refl
drop-take (suc n) [] = refl
drop-take n (x ∷ xs) = refl

-- behind a word and a ratio no blank field is filled up
kept-behind : (count : ℕ) (values : List ℕ) → 2 ≤ count → kept_ratios count values ≡ drop 1 (take count values)
kept-behind zero values h = absurd (omega arith)
kept-behind (suc n) values h = let e : suc n - 1 ≡ n = omega arith in rw e (sym (drop-take n values))

two_fields : (fs : List (List ℕ)) → 2 ≤ length fs → ratio_fields fs ≡ fs
two_fields fs h = let e : 2 - length fs ≡ 0 = omega arith in rw e (append-nil fs)

zero-among : (fs : List (List ℕ)) (count : ℕ) (values : List ℕ) → count ≡ length fs → take count values ≡ values_from ratio_scan 0 fs → 2 ≤ count
    → any_zero (drop 1 (values_from ratio_scan 0 (ratio_fields fs))) ≡ no_ratio count values
zero-among fs count values left kept two = rw (le-ltb count 2 two, two_fields fs (omega arith), kept-behind count values two, kept)

-- and where one of the two is not there the first ratio is blank
none_or_zero : (fs : List (List ℕ)) (count : ℕ) (values : List ℕ) → count ≡ length fs → take count values ≡ values_from ratio_scan 0 fs
    → any_zero (drop 1 (values_from ratio_scan 0 (ratio_fields fs))) ≡ no_ratio count values
unfolding values_from number_of in_units when◌then◌else◌
none_or_zero [] count values left kept = rw left
none_or_zero (f ∷ []) count values left kept = rw left
none_or_zero (f ∷ g ∷ fs) count values left kept = zero-among (f ∷ g ∷ fs) count values left kept (omega arith)

-- A JR LINE that was passed without a fault
module _ (fs : List (List ℕ)) (s : Scanned) (read : LineRead (field_row (suc items)) fs s) where
  few : length (ratio_fields fs) ≤ 10
  few = let l = read.left in let k = read.few in omega (arith, fields_long fs)

  formed : any_faulty ratio_rules 0 (ratio_fields fs) ≡ false
  formed = ratio_faults fs ∙ read.formed

  kept : take s.count s.values ≡ values_from ratio_scan 0 fs
  kept =
      let l = read.left in
      let k = read.few in
      sym (take-take s.count 10 s.values k) ∙ ap (take s.count) read.values ∙ rw l (values-front 0 fs (replicate (length ratio_scan - length fs) []))

  limits : any_outside ratio_rules 0 (ratio_fields fs) ≡ (s.outside || no_ratio s.count s.values)
  limits =
      zeros-behind (ratio_fields fs) few (sym (same_faults 0 (ratio_fields fs)) ∙ formed)
      ∙ rw (sym (scan_limits fs) ∙ sym read.flag, none_or_zero fs s.count s.values read.left kept)

  pub ratio-listed : no_ratio s.count s.values ≡ false → drop 1 (values_from ratio_rules 0 (ratio_fields fs)) ≡ kept_ratios s.count s.values
  ratio-listed e =
      let l = read.left in
      let two : 2 ≤ s.count = ltb-false s.count 2 (both_fail (s.count <? 2) (any_zero (kept_ratios s.count s.values)) e).0 in
      rw (kept-behind s.count s.values two, kept, two_fields fs (omega arith), same_values 0 fs)

  module _ (τ : Time) (none : empty τ.listed ≡ true) where
    by_limits : ratio_refusal τ fs ≡ met (s.outside || no_ratio s.count s.values) 7
    unfolding ratio_refusal
    by_limits = rw (none, formed, limits)

    pub ratio_outside : s.outside ≡ true → ratio_refusal τ fs ≡ 7
    ratio_outside e = by_limits ∙ rw e

    pub ratio_number : s.outside ≡ false → ratio_refusal τ fs ≡ met (no_ratio s.count s.values) 7
    ratio_number e = by_limits ∙ rw e
