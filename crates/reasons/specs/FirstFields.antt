-- The first field that is refused, as the loop over a line's fields looks for it.
--     seen_first                   the fields that it is to see are those that the definitions state
--     still_left                   while one is to be seen, one is left
--     field-here, field_passed     a field that is refused, and a turn past one that is not
--     none_seen                    past the last there is none
use Prim.Native.Nat.{ℕ, zero, suc, ◌+◌, ◌-◌, ◌≤◌, ◌<◌}
use Rattle.std.specs.Prelude.{◌≡◌, refl, Bool, true, false, List, [], ◌∷◌, ◌++◌, length, take, replicate}
use Rattle.std.proofs.Common.{sym, ap, ◌∙◌, append_assoc, lt-ltb, length-append}
use native.Mathlib.Omega.{arith}
use Rattle.std.proofs.lemmas.List.{length-replicate, replicate-append-replicate}
use Rattle.std.proofs.Math.Seq.{take-append_seam}
use Rattle.meaning.specs.Words.{◌<?◌, when◌then◌else◌}
use Rattle.meaning.specs.Fields.{Form, fields_of}
use Rattle.meaning.specs.Records.{Rule, Item, rule_at}
use Rattle.meaning.specs.Reasons.{field_line, first_field}
use Rattle.fields.specs.Spans.{first_place}
use Rattle.scanning.specs.FieldsLeft.{left_fields, left_by, left_first}
use Rattle.reasons.specs.Stated.{named_in, stated_fields}

module _ (item : Item) (form : Form) (l : List ℕ) where
  abbrev fs : List (List ℕ)
  fs = fields_of form l

  abbrev stated : List (List ℕ)
  stated = stated_fields item fs

  abbrev missing : ℕ
  missing = named_in item - length fs

  pub stated_long : length stated ≡ length fs + missing
  stated_long = length-append fs (replicate missing []) ∙ rw (length-replicate {A = List ℕ} missing [])

  pub seen_first : (all : ℕ) → all ≡ length stated → take all (left_fields form all 0 (first_place form l) l) ≡ stated
  seen_first all long =
      let h = left_first form all l in
      let enough : missing ≤ h.blanks = omega (arith, h.enough, long, stated_long) in
      let e : h.blanks ≡ missing + (h.blanks - missing) = omega arith in
      let behind : fs ++ replicate h.blanks [] ≡ stated ++ replicate (h.blanks - missing) [] =
      ap (λ (k : ℕ). fs ++ replicate k []) e
      ∙ ap (λ (gs : List (List ℕ)). fs ++ gs) (sym (replicate-append-replicate missing (h.blanks - missing) []))
      ∙ sym (append_assoc fs (replicate missing []) (replicate (h.blanks - missing) [])) in
      ap (take all) (h.fields ∙ behind) ∙ ap (λ (n : ℕ). take n (stated ++ replicate (h.blanks - missing) [])) long ∙ take-append_seam stated (replicate (h.blanks - missing) [])

module _ (test : Rule → List ℕ → Bool) (rules : List Rule) (k : ℕ) (f : List ℕ) (later : List (List ℕ)) where
  pub field-here : (n : ℕ) → 0 < n → test (rule_at rules k) f ≡ true → first_field test rules k (take n (f ∷ later)) ≡ field_line (k + 1) (rule_at rules k) f
  unfolding first_field when◌then◌else◌
  field-here zero some met = absurd (omega arith)
  field-here (suc n) some met = rw met

  pub field_passed : (n : ℕ) → 0 < n → test (rule_at rules k) f ≡ false → first_field test rules k (take n (f ∷ later)) ≡ first_field test rules (k + 1) (take (n - 1) later)
  unfolding first_field when◌then◌else◌
  field_passed zero some met = absurd (omega arith)
  field_passed (suc n) some met = let e : suc n - 1 ≡ n = omega arith in rw (met, e)

pub still_left : (n c i all : ℕ) → i < all → left_by n c i all ≡ true
unfolding when◌then◌else◌
still_left n c i all h = rw (lt-ltb i all h) (by (c <? n))
  where
    by : (t : Bool) → (when t then true else true) ≡ true
    by true = refl
    by false = refl

pub none_seen : (test : Rule → List ℕ → Bool) (rules : List Rule) (k n : ℕ) (gs : List (List ℕ)) → n ≡ 0 → first_field test rules k (take n gs) ≡ []
unfolding first_field
none_seen test rules k n gs e = rw e
