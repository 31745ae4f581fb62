-- The two forms undo each other, and what is refused in one form is in the other.
--     new-sound, new_undone     old records in the new form have no fault of it, and in the old form again are as they were
--     old-sound, old_undone     new records without fault in the old form have none of it, and in the new form again are as they were
use Rattle.std.specs.Prelude.{ℕ, ◌+◌, ◌<◌, ◌≡◌, refl, Bool, true, false, ◌||◌, length, take, drop, get_or}
use Rattle.std.proofs.Common.{sym, ◌∙◌, arith, eqb-true, length-drop, take-append-drop, take_all, take_at, drop-drop, get_or-append-add, get_or-take, get_or-drop}
use Rattle.std.proofs.Math.Path.{ap}
use Rattle.std.proofs.Math.Bool.{not}
use Rattle.std.proofs.lemmas.Bool.{false≢true, not-false}
use mathlib.Core.List.{List, [], ◌∷◌, ◌++◌, append_assoc, map}
use Rattle.std.proofs.Math.ListN.{get_or-append}
use Rattle.std.proofs.Math.Seq.{drop_at}
use Rattle.meaning.specs.Words.{◌=?◌, same, met}
use Rattle.meaning.specs.Results.{little_endian, record_size, old_record_size}
use Rattle.meaning.specs.Moving.{old_padding, new_padding, whole_ratio, new_form, old_form, filled, any_filled, other_ratio, any_other}
use Rattle.sequences.specs.Choices.{both_hold, both_fail}
use Rattle.sequences.specs.Refusals.{neither_met, not_met}
use Rattle.forms.specs.Tests.{tail_padding, four_bytes}
use Rattle.files.specs.Joined.{Sized}
use Rattle.forms.specs.Fault.{filled_more}
use Rattle.moving.specs.Faults.{new_faults, old_faults}

-- what stands behind the old bytes
abbrev behind : List ℕ
behind = whole_ratio ++ little_endian 4 0

-- bytes that are the same
same_bytes : (xs ys : List ℕ) → same xs ys ≡ true → xs ≡ ys
unfolding same
same_bytes [] [] h = refl
same_bytes [] (y ∷ ys) h = absurd (false≢true h)
same_bytes (x ∷ xs) [] h = absurd (false≢true h)
same_bytes (x ∷ xs) (y ∷ ys) h =
    let both = both_hold (x =? y) (same xs ys) h in
    rw (eqb-true x y both.0, same_bytes xs ys both.1)

-- one old record in the new form
module _ (r : List ℕ) (size : length r ≡ old_record_size) where
  new_apart : new_form r ≡ r ++ behind
  new_apart = append_assoc r whole_ratio (little_endian 4 0)

  front_byte : (k : ℕ) → k < old_record_size → get_or (new_form r) k 0 ≡ get_or r k 0
  front_byte k h = ap (λ (l : List ℕ). get_or l k 0) new_apart ∙ get_or-append r behind 0 k (omega arith)

  behind_byte : (k : ℕ) → get_or (new_form r) (old_record_size + k) 0 ≡ get_or behind k 0
  behind_byte k = ap (λ (l : List ℕ). get_or l (old_record_size + k) 0) new_apart ∙ ap (λ (n : ℕ). get_or (r ++ behind) (n + k) 0) (sym size) ∙ get_or-append-add r behind k 0

  padding_kept : filled new_padding (new_form r) ≡ filled old_padding r
  padding_kept =
      rw (front_byte 7 (omega arith), front_byte 22 (omega arith), front_byte 23 (omega arith), behind_byte 4, behind_byte 5, behind_byte 6, behind_byte 7)

  ratio-whole : other_ratio (new_form r) ≡ false
  unfolding same
  ratio-whole = ap (λ (l : List ℕ). not (same (take 4 l) whole_ratio)) (ap (drop old_record_size) new_apart ∙ drop_at r behind old_record_size size)

  old_again : old_form (new_form r) ≡ r
  old_again = ap (take old_record_size) new_apart ∙ take_at r behind old_record_size size

any_kept : (rs : List (List ℕ)) → Sized old_record_size rs → any_filled new_padding (map new_form rs) ≡ any_filled old_padding rs
unfolding any_filled
any_kept [] h = refl
any_kept (r ∷ rs) h = rw (padding_kept r h.0, any_kept rs h.1)

none_other : (rs : List (List ℕ)) → Sized old_record_size rs → any_other (map new_form rs) ≡ false
unfolding any_other
none_other [] h = refl
none_other (r ∷ rs) h = rw (ratio-whole r h.0, none_other rs h.1)

pub new-sound : (rs : List (List ℕ)) → Sized old_record_size rs → new_faults rs ≡ 0 → old_faults (map new_form rs) ≡ 0
new-sound rs h sound = rw (any_kept rs h, none_other rs h, not_met (any_filled old_padding rs) 1 sound)

pub new_undone : (rs : List (List ℕ)) → Sized old_record_size rs → new_faults rs ≡ 0 → map old_form (map new_form rs) ≡ rs
new_undone rs h sound = each rs h
  where
    each : (rs : List (List ℕ)) → Sized old_record_size rs → map old_form (map new_form rs) ≡ rs
    each [] h = refl
    each (r ∷ rs) h = rw (old_again r h.0, each rs h.1)

-- one new record that has no fault, in the old form
module _ (r : List ℕ) (size : length r ≡ record_size) (clean : filled new_padding r ≡ false) where
  apart : (filled old_padding r ≡ false) × (filled tail_padding r ≡ false)
  apart = both_fail (filled old_padding r) (filled tail_padding r) (sym (filled_more old_padding tail_padding r) ∙ clean)

  front_clean : filled old_padding (old_form r) ≡ false
  front_clean =
      rw (get_or-take old_record_size r 7 0 (omega arith), get_or-take old_record_size r 22 0 (omega arith), get_or-take old_record_size r 23 0 (omega arith)) apart.0

  no_byte : (k : ℕ) (rest : Bool) → (not (get_or r k 0 =? 0) || rest) ≡ false → (get_or r k 0 ≡ 0) × (rest ≡ false)
  no_byte k rest h =
      let both = both_fail (not (get_or r k 0 =? 0)) rest h in
      (eqb-true (get_or r k 0) 0 (not-false (get_or r k 0 =? 0) both.0), both.1)

  tail_zeros : drop 36 r ≡ little_endian 4 0
  tail_zeros =
      let four : length (drop 36 r) ≡ 4 = simp length-drop (omega arith) in
      let a = no_byte 36 _ apart.1 in
      let b = no_byte 37 _ a.1 in
      let c = no_byte 38 _ b.1 in
      let d = no_byte 39 _ c.1 in
      sym (take_all 4 (drop 36 r) (omega arith)) ∙ four_bytes (drop 36 r) (omega arith)
      ∙ rw (get_or-drop 36 r 0 0, get_or-drop 36 r 1 0, get_or-drop 36 r 2 0, get_or-drop 36 r 3 0, a.0, b.0, c.0, d.0)

  new_again : other_ratio r ≡ false → new_form (old_form r) ≡ r
  new_again plain =
      let ratio : take 4 (drop old_record_size r) ≡ whole_ratio = same_bytes (take 4 (drop old_record_size r)) whole_ratio (not-false _ plain) in
      let after : drop old_record_size r ≡ behind =
      sym (take-append-drop 4 (drop old_record_size r)) ∙ rw (ratio, drop-drop 4 old_record_size r, tail_zeros) in
      append_assoc (take old_record_size r) whole_ratio (little_endian 4 0) ∙ ap (λ (l : List ℕ). take old_record_size r ++ l) (sym after) ∙ take-append-drop old_record_size r

any_clean : (rs : List (List ℕ)) → Sized record_size rs → any_filled new_padding rs ≡ false → any_filled old_padding (map old_form rs) ≡ false
unfolding any_filled
any_clean [] h clean = refl
any_clean (r ∷ rs) h clean =
    let both = both_fail (filled new_padding r) (any_filled new_padding rs) clean in
    rw (front_clean r h.0 both.0, any_clean rs h.1 both.1)

each_again : (rs : List (List ℕ)) → Sized record_size rs → any_filled new_padding rs ≡ false → any_other rs ≡ false → map new_form (map old_form rs) ≡ rs
unfolding any_filled any_other
each_again [] h clean plain = refl
each_again (r ∷ rs) h clean plain =
    let both = both_fail (filled new_padding r) (any_filled new_padding rs) clean in
    let and = both_fail (other_ratio r) (any_other rs) plain in
    rw (new_again r h.0 both.0 and.0, each_again rs h.1 both.1 and.1)

none_met : (rs : List (List ℕ)) → old_faults rs ≡ 0 → (any_filled new_padding rs ≡ false) × (any_other rs ≡ false)
none_met rs sound =
    let both = neither_met (met (any_filled new_padding rs) 2) (met (any_other rs) 3) sound in
    (not_met (any_filled new_padding rs) 1 both.0, not_met (any_other rs) 2 both.1)

pub old-sound : (rs : List (List ℕ)) → Sized record_size rs → old_faults rs ≡ 0 → new_faults (map old_form rs) ≡ 0
old-sound rs h sound = rw (any_clean rs h (none_met rs sound).0)

pub old_undone : (rs : List (List ℕ)) → Sized record_size rs → old_faults rs ≡ 0 → map new_form (map old_form rs) ≡ rs
old_undone rs h sound = each_again rs h (none_met rs sound).0 (none_met rs sound).1
