-- Bytes without the last ones that are one byte, by what `strip_suffix` finds.
--     trim_more       where the last one is the byte, by those before it
--     trim_kept       where it is not, nothing is dropped
use Prim.Native.Nat.{ℕ, suc, ◌-◌, ◌<◌, ◌≤◌}
use Rattle.std.specs.Prelude.{◌≡◌, Bool, true, false, List, [], ◌∷◌, length, take, drop, get_or}
use Rattle.std.specs.Cmp.Lexicographic.{pointwise}
use Rattle.std.proofs.Common.{sym, ap, ◌∙◌, arith, ⊎_elim, drop-cons, nat_eq}
use lib.Seq.{drop-length, take-length}
use Rattle.std.proofs.Math.Bool.{and-true}
use Rattle.meaning.specs.Fields.{trim_end}
use Rattle.sequences.specs.Choices.{below_or_not}
use Rattle.sequences.specs.Trimming.{take_none, take-pass, take-stop}
use Rattle.slices.specs.Bytes.{is_byte}

module _ (b : ℕ) (s : List ℕ) where
  -- whether the byte stands last
  abbrev pub ends : Bool
  ends = pointwise nat_eq (drop (length s - 1) s) (b ∷ [])

  module _ (some : 0 < length s) where
    last_alone : (t : Bool) → ends ≡ t → is_byte b (get_or s (length s - 1) 0) ≡ t
    last_alone t e =
        let all : suc (length s - 1) ≡ length s = omega arith in
        let tail : drop (length s - 1) s ≡ get_or s (length s - 1) 0 ∷ [] =
        drop-cons s (length s - 1) 0 (omega arith) ∙ rw (all, drop-length s) in
        sym (and-true (is_byte b (get_or s (length s - 1) 0))) ∙ ap (λ (l : List ℕ). pointwise nat_eq l (b ∷ [])) (sym tail) ∙ e

  pub trim_more : ends ≡ true → 0 < length s → trim_end (is_byte b) (take (length s - 1) s) ≡ trim_end (is_byte b) s
  trim_more e some =
      let within : length s ≤ length s = omega arith in
      sym (take-pass (is_byte b) s (length s) some within (last_alone some true e)) ∙ ap (trim_end (is_byte b)) (take-length s)

  pub trim_kept : ends ≡ false → trim_end (is_byte b) s ≡ s
  trim_kept e =
      let within : length s ≤ length s = omega arith in
      sym (ap (trim_end (is_byte b)) (take-length s))
      ∙ ⊎_elim
      (λ (none : length s < 1). take_none (is_byte b) s (length s) (omega arith))
      (λ (some : 1 ≤ length s). take-stop (is_byte b) s (length s) (omega arith) within (last_alone (omega arith) false e))
      (below_or_not (length s) 1)
      ∙ take-length s
