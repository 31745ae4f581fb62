-- The ways through the definition of a line, one law for each; rest_lf and rest_cr-lf: by the text that the rest of the deck begins with.
use Rattle.std.specs.Prelude.{ℕ, suc, ◌+◌, ◌-◌, ◌≤◌, ◌<◌, ◌≡◌, ◌&&◌, List, [], ◌∷◌, eqb, length, take, drop, get_or}
use Rattle.std.specs.List.{starts_with}
use Rattle.std.proofs.Math.Path.{refl}
use Rattle.std.proofs.Math.Bool.{Bool, true, false, and-false}
use Rattle.std.proofs.Math.Seq.{take-length}
use Rattle.std.proofs.Common.{◌∙◌, ap, sym, add-zero, eq-eqb, ne_eqb, lt-ltb, le-ltb, le-leb, length-drop, get_or-drop}
use Rattle.std.proofs.lemmas.Bool.{lt-leb}
use Rattle.std.proofs.Math.ListN.{get_or-eq_default}
use Rattle.meaning.specs.Words.{◌=?◌}
use Rattle.meaning.specs.Lines.{lf, cr}
use Rattle.sequences.specs.Choices.{taken, passed}
use Rattle.slices.specs.Stops.{eqb-turned, begins_byte, begins_at}
use Rattle.lines.specs.Line.{fair_line, unfair_line, line_ending, line_from}

-- what a text begins with, by its first bytes
begins_cr-lf : (r : List ℕ) → starts_with eqb r (cr ∷ lf ∷ []) ≡ ((get_or r 0 0 =? cr) && (get_or r 1 0 =? lf))
begins_cr-lf [] = refl
begins_cr-lf (b ∷ []) = rw (and-false (eqb cr b), and-false (b =? cr)) refl
begins_cr-lf (b ∷ d ∷ r) = rw (eqb-turned cr b) (ap (λ (t : Bool). (b =? cr) && t) (begins_byte lf refl (d ∷ r)))

-- the rest of a deck, as the code cuts it
module _ (s : List ℕ) (end : ℕ) where
  abbrev pub rest : List ℕ
  rest = take (length s - end) (drop end s)

  pub rest_is : rest ≡ drop end s
  rest_is = ap (λ (n : ℕ). take n (drop end s)) (sym (length-drop end s)) ∙ take-length (drop end s)

  pub rest_lf : starts_with eqb rest (lf ∷ []) ≡ (get_or s end 0 =? lf)
  rest_lf = rw rest_is (begins_at lf refl s end)

  pub rest_cr-lf : starts_with eqb rest (cr ∷ lf ∷ []) ≡ ((get_or s end 0 =? cr) && (get_or s (end + 1) 0 =? lf))
  rest_cr-lf = rw rest_is (begins_cr-lf (drop end s) ∙ rw (get_or-drop end s 0 0, get_or-drop end s 1 0, add-zero end) refl)

module _ (s : List ℕ) (at end : ℕ) where
  pub too_long : 80 < end - at → unfair_line end ≡ line_from s at end
  unfolding line_from
  too_long h = taken _ (lt-ltb _ _ h) refl

  module _ (short : end - at ≤ 80) where
    pub at_deck-end : length s ≤ end → fair_line end end ≡ line_from s at end
    unfolding line_from line_ending
    at_deck-end h = passed _ (le-ltb _ _ short) (taken _ (le-leb _ _ h) refl)

    module _ (more : end < length s) where
      pub at_lf : get_or s end 0 ≡ lf → fair_line end (end + 1) ≡ line_from s at end
      unfolding line_from line_ending
      at_lf h = passed _ (le-ltb _ _ short) (passed _ (lt-leb _ _ more) (taken _ (eq-eqb _ _ h) refl))

      module _ (no-lf : get_or s end 0 ≡ lf → ⊥) where
        pub at_cr-lf : get_or s end 0 ≡ cr → get_or s (end + 1) 0 ≡ lf → fair_line end (end + 2) ≡ line_from s at end
        unfolding line_from line_ending
        at_cr-lf h k =
            passed _ (le-ltb _ _ short) (passed _ (lt-leb _ _ more) (passed _ (ne_eqb _ _ no-lf) (taken _ (rw (h, k)) refl)))

        pub at_foreign : ((get_or s end 0 =? cr) && (get_or s (end + 1) 0 =? lf)) ≡ false → unfair_line end ≡ line_from s at end
        unfolding line_from line_ending
        at_foreign h =
            passed _ (le-ltb _ _ short) (passed _ (lt-leb _ _ more) (passed _ (ne_eqb _ _ no-lf) (passed _ h refl)))

        pub at_other : (get_or s end 0 ≡ cr → ⊥) → unfair_line end ≡ line_from s at end
        at_other h = at_foreign (rw (ne_eqb (get_or s end 0) cr h))

        pub at_cr : (get_or s (end + 1) 0 ≡ lf → ⊥) → unfair_line end ≡ line_from s at end
        at_cr h = at_foreign (rw (ne_eqb (get_or s (end + 1) 0) lf h) (and-false (get_or s end 0 =? cr)))

        pub at_last_cr : length s ≤ end + 1 → unfair_line end ≡ line_from s at end
        at_last_cr h = at_foreign (rw (get_or-eq_default s 0 h) (and-false (get_or s end 0 =? cr)))
