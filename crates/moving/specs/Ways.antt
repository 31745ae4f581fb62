-- Both ways of moving are one, over the size of a record, the form that it gets and what is refused in records.
--     refusal_of, mover     what a file is refused for, and what comes of it
--     any_filled-append, any_other_append     what is looked for in any record of two files
--     Way                  what the laws of a way ask; new_way, old_way: the two
use Rattle.std.specs.Prelude.{ℕ, zero, suc, ◌<◌, ◌≡◌, refl, Bool, true, false, ◌||◌, List, [], ◌∷◌, ◌++◌, ◌⊎◌}
use Rattle.std.proofs.Common.{sym, ap, inl, inr, arith}
use Rattle.std.proofs.Math.Bool.{or_assoc}
use Rattle.meaning.specs.Words.{met, first}
use Rattle.meaning.specs.Results.{record_size, old_record_size}
use Rattle.meaning.specs.Moving.{old_padding, new_padding, new_form, old_form, records_in, filled, any_filled, other_ratio, any_other, length_refusal, room_refusal}
use Rattle.meaning.specs.Moving.{Outcome, moved_unless, to_new, to_old}
use Rattle.moving.specs.Records.{moved_by}
use Rattle.forms.specs.Forms.{Makes, new-makes, old-makes}
use Rattle.moving.specs.Faults.{new_faults, old_faults}

abbrev pub refusal_of : (size : ℕ) (form : List ℕ → List ℕ) (faults : List (List ℕ) → ℕ) → (file : List ℕ) → (room : ℕ) → ℕ
refusal_of size form faults file room = first (length_refusal size file) (first (faults (records_in size file)) (room_refusal room (moved_by form size file)))

abbrev pub mover : (size : ℕ) (form : List ℕ → List ℕ) (faults : List (List ℕ) → ℕ) → (file : List ℕ) → (room : ℕ) → Outcome
mover size form faults file room = moved_unless (refusal_of size form faults file room) (moved_by form size file) room

is_new : (file : List ℕ) (room : ℕ) → to_new file room ≡ mover old_record_size new_form new_faults file room
unfolding to_new moved_by
is_new file room = refl

first_of_three : (l m n : ℕ) → first l (first m n) ≡ first (first l m) n
first_of_three zero m n = refl
first_of_three (suc l) m n = refl

is_old : (file : List ℕ) (room : ℕ) → to_old file room ≡ mover record_size old_form old_faults file room
unfolding to_old moved_by
is_old file room = ap (λ (n : ℕ). moved_unless n (moved_by old_form record_size file) room)
    (ap (first (length_refusal record_size file))
    (first_of_three (met (any_filled new_padding (records_in record_size file)) 2) (met (any_other (records_in record_size file)) 3) (room_refusal room (moved_by old_form record_size file))))

-- what is looked for in any record of two files is looked for in each
pub any_filled-append : (padding : List ℕ) (rs ss : List (List ℕ)) → any_filled padding (rs ++ ss) ≡ (any_filled padding rs || any_filled padding ss)
unfolding any_filled
any_filled-append padding [] ss = refl
any_filled-append padding (r ∷ rs) ss = rw (any_filled-append padding rs ss) (sym (or_assoc (filled padding r) (any_filled padding rs) (any_filled padding ss)))

pub any_other_append : (rs ss : List (List ℕ)) → any_other (rs ++ ss) ≡ (any_other rs || any_other ss)
unfolding any_other
any_other_append [] ss = refl
any_other_append (r ∷ rs) ss = rw (any_other_append rs ss) (sym (or_assoc (other_ratio r) (any_other rs) (any_other ss)))

new-either : (rs ss : List (List ℕ)) (k : ℕ) → new_faults (rs ++ ss) ≡ suc k → (new_faults rs ≡ suc k) ⊎ (new_faults ss ≡ suc k)
new-either rs ss k e = go (any_filled old_padding rs) (any_filled old_padding ss) (rw (any_filled-append old_padding rs ss) at e)
  where
    go : (f g : Bool) → met (f || g) 2 ≡ suc k → (met f 2 ≡ suc k) ⊎ (met g 2 ≡ suc k)
    go true g h = inl h
    go false g h = inr h

old-either : (rs ss : List (List ℕ)) (k : ℕ) → old_faults (rs ++ ss) ≡ suc k → (old_faults rs ≡ suc k) ⊎ (old_faults ss ≡ suc k)
old-either rs ss k e =
    go (any_filled new_padding rs) (any_filled new_padding ss) (any_other rs) (any_other ss) (rw (any_filled-append new_padding rs ss, any_other_append rs ss) at e)
  where
    go : (f g o p : Bool) → first (met (f || g) 2) (met (o || p) 3) ≡ suc k
        → (first (met f 2) (met o 3) ≡ suc k) ⊎ (first (met g 2) (met p 3) ≡ suc k)
    go true g o p h = inl h
    go false true o p h = inr h
    go false false true p h = inl h
    go false false false p h = inr h

pub record Way (size to : ℕ) (form : List ℕ → List ℕ) (faults : List (List ℕ) → ℕ) (way : List ℕ → ℕ → Outcome) : Type 0 where
  pub some : 0 < size
  pub makes : Makes form size to
  pub either : (rs ss : List (List ℕ)) (k : ℕ) → faults (rs ++ ss) ≡ suc k → (faults rs ≡ suc k) ⊎ (faults ss ≡ suc k)
  pub is : (file : List ℕ) (room : ℕ) → way file room ≡ mover size form faults file room

pub new_way : Way old_record_size record_size new_form new_faults to_new
new_way = record { some = omega arith; makes = new-makes; either = new-either; is = is_new }

pub old_way : Way record_size old_record_size old_form old_faults to_old
old_way = record { some = omega arith; makes = old-makes; either = old-either; is = is_old }
