-- What one pass over a line's fields keeps, field by field: the values, the place of the last field that is not blank, and whether a value is outside its limits.
--     scan_from         the pass, as a left fold over the fields
--     scan_outside     the flag is refusal 7's
--     count_behind, count-step, count-start   the place behind the last field that is not blank, field by field
--     scan_count       the count is that of the fields left when trailing blank ones are dropped
--     scan_values      the values are those fields'
use Rattle.std.specs.Prelude.{ℕ, suc, ◌+◌, ◌≤◌, ◌<◌, ◌≡◌, refl, Bool, true, false, ◌&&◌, ◌||◌, List, [], ◌∷◌, ◌++◌, length, take, set}
use Rattle.std.proofs.Common.{sym, ◌∙◌, append-nil, append_assoc, arith, add-one, lt-ltb, length-set, take-suc-set}
use Rattle.std.proofs.Math.Bool.{or-false, or_assoc}
use Rattle.std.proofs.lemmas.List.{take-set-le}
use Rattle.meaning.specs.Words.{◌<?◌, when◌then◌else◌, empty}
use Rattle.meaning.specs.Fields.{trim_end}
use Rattle.meaning.specs.Records.{Rule, rule_at, outside_field, any_field, any_outside, value_of, values_from}

pub record Scanned : Type 0 where
  pub values : List ℕ
  pub count : ℕ
  pub outside : Bool

-- one value kept, of ten
unfoldable pub kept : ℕ → ℕ → List ℕ → List ℕ
kept k v vs = when k <? 10 then set vs k v else vs

abbrev pub noted : List Rule → ℕ → List ℕ → Scanned → Scanned
noted rules k f s =
    record {
      values = kept k (value_of (rule_at rules k) f) s.values;
      count = when empty f then s.count else k + 1;
      outside = s.outside || outside_field (rule_at rules k) f;
    }

unfoldable pub scan_from : List Rule → ℕ → List (List ℕ) → Scanned → Scanned
scan_from rules k [] s = s
scan_from rules k (f ∷ fs) s = scan_from rules (k + 1) fs (noted rules k f s)

pub scan_outside : (rules : List Rule) (k : ℕ) (fs : List (List ℕ)) (s : Scanned) → (scan_from rules k fs s).outside ≡ (s.outside || any_outside rules k fs)
unfolding scan_from any_field
scan_outside rules k [] s = sym (or-false s.outside)
scan_outside rules k (f ∷ fs) s =
    scan_outside rules (k + 1) fs (noted rules k f s) ∙ or_assoc s.outside (outside_field (rule_at rules k) f) (any_outside rules (k + 1) fs)

-- the count behind fields of which ts are left, with c before
abbrev pub count_behind : ℕ → ℕ → List (List ℕ) → ℕ
count_behind c k [] = c
count_behind c k (t ∷ ts) = k + length (t ∷ ts)

pub count-step : (c k : ℕ) (f : List ℕ) (ts : List (List ℕ)) → count_behind (when empty f then c else k + 1) (k + 1) ts ≡ count_behind c k (when empty f && empty ts then [] else f ∷ ts)
unfolding when◌then◌else◌
count-step c k [] [] = refl
count-step c k [] (t ∷ ts) = omega arith
count-step c k (b ∷ f) [] = refl
count-step c k (b ∷ f) (t ∷ ts) = omega arith

scan_counts : (rules : List Rule) (k : ℕ) (fs : List (List ℕ)) (s : Scanned) → (scan_from rules k fs s).count ≡ count_behind s.count k (trim_end empty fs)
unfolding scan_from trim_end
scan_counts rules k [] s = refl
scan_counts rules k (f ∷ fs) s = scan_counts rules (k + 1) fs (noted rules k f s) ∙ count-step s.count k f (trim_end empty fs)

pub count-start : (ts : List (List ℕ)) → count_behind 0 0 ts ≡ length ts
count-start [] = refl
count-start (t ∷ ts) = omega arith

pub scan_count : (rules : List Rule) (fs : List (List ℕ)) (s : Scanned) → s.count ≡ 0 → (scan_from rules 0 fs s).count ≡ length (trim_end empty fs)
scan_count rules fs s e = scan_counts rules 0 fs s ∙ rw e (count-start (trim_end empty fs))

-- a value kept stands behind those kept before
kept_next : (k v : ℕ) (vs : List ℕ) → k < 10 → length vs ≡ 10 → take (k + 1) (kept k v vs) ≡ take k vs ++ (v ∷ [])
unfolding kept when◌then◌else◌
kept_next k v vs h e = rw (lt-ltb k 10 h, add-one) (take-suc-set vs k v (omega arith))

kept-length : (k v : ℕ) (vs : List ℕ) → length (kept k v vs) ≡ length vs
unfolding kept when◌then◌else◌
kept-length k v vs = by (k <? 10)
  where
    by : (t : Bool) → length (when t then set vs k v else vs) ≡ length vs
    by true = length-set vs k v
    by false = refl

-- and leaves those alone
kept_before : (n k v : ℕ) (vs : List ℕ) → n ≤ k → take n (kept k v vs) ≡ take n vs
unfolding kept when◌then◌else◌
kept_before n k v vs h = by (k <? 10)
  where
    by : (t : Bool) → take n (when t then set vs k v else vs) ≡ take n vs
    by true = take-set-le n vs k v h
    by false = refl

scan_before : (rules : List Rule) (n k : ℕ) (fs : List (List ℕ)) (s : Scanned) → n ≤ k → take n (scan_from rules k fs s).values ≡ take n s.values
unfolding scan_from
scan_before rules n k [] s h = refl
scan_before rules n k (f ∷ fs) s h = scan_before rules n (k + 1) fs (noted rules k f s) (omega arith) ∙ kept_before n k (value_of (rule_at rules k) f) s.values h

pub scan_values : (rules : List Rule) (k : ℕ) (us vs : List (List ℕ)) (s : Scanned) → k + length us ≤ 10 → length s.values ≡ 10
    → take (k + length us) (scan_from rules k (us ++ vs) s).values ≡ take k s.values ++ values_from rules k us
unfolding scan_from values_from
scan_values rules k [] vs s h e =
    let z : k + 0 ≡ k = omega arith in
    rw (z, append-nil (take k s.values)) (scan_before rules k k vs s (omega arith))
scan_values rules k (u ∷ us) vs s h e =
    let v = value_of (rule_at rules k) u in
    let n : k + suc (length us) ≡ k + 1 + length us = omega arith in
    rw (n)
    (scan_values rules (k + 1) us vs (noted rules k u s) (omega arith) (kept-length k v s.values ∙ e)
    ∙ rw (kept_next k v s.values (omega arith) e) (append_assoc (take k s.values) (v ∷ []) (values_from rules (k + 1) us)))

pub scan_length : (rules : List Rule) (k : ℕ) (fs : List (List ℕ)) (s : Scanned) → length (scan_from rules k fs s).values ≡ length s.values
unfolding scan_from
scan_length rules k [] s = refl
scan_length rules k (f ∷ fs) s = scan_length rules (k + 1) fs (noted rules k f s) ∙ kept-length k (value_of (rule_at rules k) f) s.values

-- from the first field on
pub scan_first : (rules : List Rule) (us vs : List (List ℕ)) (s : Scanned) → length us ≤ 10 → length s.values ≡ 10
    → take (length us) (scan_from rules 0 (us ++ vs) s).values ≡ values_from rules 0 us
scan_first rules us vs s h e =
    let z : 0 + length us ≡ length us = omega arith in
    rw z at (scan_values rules 0 us vs s (omega arith) e)
