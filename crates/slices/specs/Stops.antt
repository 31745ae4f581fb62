-- Where a run of bytes stops, by what `position` finds; and whether bytes begin with one, by what `starts_with` finds.
use Rattle.std.specs.Prelude.{ℕ, suc, ◌+◌, ◌≡◌, refl, Bool, true, false, not, ◌&&◌, cond, eqb, nat_lt, Some, None, List, [], ◌∷◌, length, drop, get_or}
use Rattle.std.specs.Option.{unwrap_or}
use Rattle.std.specs.List.{position, position_or_len, starts_with}
use Rattle.std.proofs.lemmas.List.Recursion.{is_position_or_len}
use Rattle.std.proofs.Common.{sym, ap, ◌∙◌, arith, add-zero, eq-eqb, ne_eqb, ltb-false, get_or-drop}
use Rattle.std.proofs.lemmas.Bool.{eqb-true, eqb-false}
use Rattle.meaning.specs.Words.{◌=?◌, when◌then◌else◌}
use Rattle.sequences.specs.Runs.{run, run_within}

module _ (test : ℕ → Bool) where
  run_or_len : (s : List ℕ) → run test s ≡ position_or_len (λ b. not (test b)) s
  unfolding run when◌then◌else◌
  run_or_len = is_position_or_len (run test) (λ b. not (test b)) refl (λ b s. go (test b) (run test s))
    where
      go : (t : Bool) (n : ℕ) → (when t then suc n else 0) ≡ cond (not t) 0 (1 + n)
      go true n = omega arith
      go false n = refl

  -- at the first byte that is not of it, or at the end
  pub first_other : (s : List ℕ) → unwrap_or (position (λ b. not (test b)) s) (length s) ≡ run test s
  first_other s = rw (sym (run_or_len s)) (go (nat_lt (run test s) (length s)) refl)
    where
      go : (t : Bool) → nat_lt (run test s) (length s) ≡ t → unwrap_or (cond t (Some (run test s)) None) (length s) ≡ run test s
      go true h = refl
      go false h = omega (arith, run_within test s, ltb-false (run test s) (length s) h)

pub eqb-turned : (a b : ℕ) → eqb a b ≡ (b =? a)
eqb-turned a b = go (eqb a b) refl
  where
    go : (t : Bool) → eqb a b ≡ t → t ≡ (b =? a)
    go true e = sym (eq-eqb b a (sym (eqb-true a b e)))
    go false e = sym (ne_eqb b a (λ g. eqb-false a b e (sym g)))

-- of a byte that is not 0, which stands for none
module _ (a : ℕ) (some : (0 =? a) ≡ false) where
  pub begins_byte : (s : List ℕ) → starts_with eqb s (a ∷ []) ≡ (get_or s 0 0 =? a)
  begins_byte [] = sym some
  begins_byte (b ∷ s) = go (eqb a b) (eqb-turned a b)
    where
      go : (t : Bool) → t ≡ (b =? a) → (t && true) ≡ (b =? a)
      go true e = e
      go false e = e

  pub begins_at : (s : List ℕ) (i : ℕ) → starts_with eqb (drop i s) (a ∷ []) ≡ (get_or s i 0 =? a)
  begins_at s i = begins_byte (drop i s) ∙ ap (λ (b : ℕ). b =? a) (get_or-drop i s 0 0 ∙ ap (λ (n : ℕ). get_or s n 0) (add-zero i))
