-- Laws of either way of moving.
--     Accepted, accepted, front      what an answer with a count of bytes tells, and the bytes
--     records-move, records-refused  a file that is made of records, without a fault and with one
--     both_move, either-refused      two files, one behind the other
--     go_back                        one way and then the other
use Prim.Native.Nat.{ℕ, zero, suc, ◌+◌, ◌-◌, ◌%◌, ◌≤◌, ◌<◌}
use Rattle.std.specs.Prelude.{◌≡◌, Bool, ◌⊎◌, take, replicate}
use Rattle.std.proofs.Math.Path.{refl, ap}
use Rattle.std.proofs.Common.{sym, ◌∙◌, ⊎_elim, arith, eq-eqb, le-ltb, eqb-true, take_at}
use Rattle.std.proofs.Math.Bool.{true, false}
use mathlib.Core.List.{List, ◌++◌, map, map-append}
use Rattle.std.proofs.Math.Logic.{inl, inr}
use Rattle.std.proofs.lemmas.Bool.{not-false}
use Rattle.std.proofs.Math.ListN.{length, length-append}
use Rattle.meaning.specs.Words.{◌=?◌, ◌<?◌, met, first}
use Rattle.meaning.specs.Moving.{records_in, joined, length_refusal, room_refusal}
use Rattle.meaning.specs.Moving.{Move, Moved, Unmoved, Outcome, moved_unless}
use Rattle.sequences.specs.Refusals.{neither_met, not_met}
use Rattle.moving.specs.Answers.{refused_in, moved_in, unless_moved}
use Rattle.moving.specs.Records.{moved_by}
use Rattle.files.specs.Joined.{Sized, joined-append, sized_map, sized_append, whole-joined, records-of, sized_records, joined-records, join_files}
use Rattle.moving.specs.Ways.{refusal_of, mover, Way}

-- an answer with a count is no refusal, and one with a number is that refusal
counted : (number : ℕ) (moved : List ℕ) (room n : ℕ) → (moved_unless number moved room).answer ≡ Moved n → (number ≡ 0) × (n ≡ length moved)
counted zero moved room n h = (refl, cc)
counted (suc number) moved room n h = let never : ◌≡◌ {A = ℕ} 0 1 = cc in absurd (omega arith)

numbered : (refusal : ℕ) (moved : List ℕ) (room number : ℕ) → (moved_unless refusal moved room).answer ≡ Unmoved number → (refusal ≡ number) × (0 < number)
numbered zero moved room number h = let never : ◌≡◌ {A = ℕ} 0 1 = cc in absurd (omega arith)
numbered (suc refusal) moved room number h = let same : suc refusal ≡ number = cc in (same, omega arith)

pub record Accepted (size : ℕ) (form : List ℕ → List ℕ) (faults : List (List ℕ) → ℕ) (file : List ℕ) (n : ℕ) (outcome : Outcome) (room : ℕ) : Type 0 where
  pub whole : length file % size ≡ 0
  pub sound : faults (records_in size file) ≡ 0
  pub count : n ≡ length (moved_by form size file)
  pub comes : outcome ≡ moved_in (moved_by form size file) room

module _ {size to : ℕ} {form : List ℕ → List ℕ} {faults : List (List ℕ) → ℕ} {way : List ℕ → ℕ → Outcome} (w : Way size to form faults way) where
  answer-is : (file : List ℕ) (room : ℕ) {m : Move} → (way file room).answer ≡ m → (mover size form faults file room).answer ≡ m
  answer-is file room h = sym (ap (λ (o : Outcome). o.answer) (w.is file room)) ∙ h

  pub accepted : (file : List ℕ) (room n : ℕ) → (way file room).answer ≡ Moved n → Accepted size form faults file n (way file room) room
  accepted file room n h =
      let moved = moved_by form size file in
      let told = counted (refusal_of size form faults file room) moved room n (answer-is file room h) in
      let chain = neither_met (length_refusal size file) _ told.0 in
      let after = neither_met (faults (records_in size file)) _ chain.1 in
      record {
        whole = eqb-true (length file % size) 0 (not-false (length file % size =? 0) (not_met _ 0 chain.0));
        sound = after.0;
        count = told.1;
        comes = w.is file room ∙ unless_moved (refusal_of size form faults file room) moved room told.0;
      }

  -- the moved bytes stand first in the room
  pub front : (file : List ℕ) (room n : ℕ) → (way file room).answer ≡ Moved n → take n (way file room).room ≡ moved_by form size file
  front file room n h =
      let a = accepted file room n h in
      ap (λ (o : Outcome). take n o.room) a.comes ∙ take_at (moved_by form size file) (replicate (room - length (moved_by form size file)) 0) n (sym a.count)

  -- A FILE MADE OF RECORDS
  moved_records : (rs : List (List ℕ)) → Sized size rs → moved_by form size (joined rs) ≡ joined (map form rs)
  unfolding moved_by
  moved_records rs h = ap (λ (l : List (List ℕ)). joined (map form l)) (records-of size w.some rs h)

  refusal-of : (rs : List (List ℕ)) (room : ℕ) → Sized size rs → refusal_of size form faults (joined rs) room ≡ first (faults rs) (room_refusal room (joined (map form rs)))
  refusal-of rs room h = rw (eq-eqb (length (joined rs) % size) 0 (whole-joined size rs h), records-of size w.some rs h, moved_records rs h)

  pub records-move : (rs : List (List ℕ)) (room : ℕ) → Sized size rs → faults rs ≡ 0 → length (joined (map form rs)) ≤ room
      → way (joined rs) room ≡ moved_in (joined (map form rs)) room
  records-move rs room h sound fits =
      w.is (joined rs) room ∙ rw (refusal-of rs room h, sound, le-ltb room (length (joined (map form rs))) fits, moved_records rs h)

  pub records-refused : (rs : List (List ℕ)) (room k : ℕ) → Sized size rs → faults rs ≡ suc k → way (joined rs) room ≡ refused_in (suc k) room
  records-refused rs room k h fault = w.is (joined rs) room ∙ rw (refusal-of rs room h, fault)

  whole-refused : (file : List ℕ) (room k : ℕ) → length file % size ≡ 0 → faults (records_in size file) ≡ suc k → (way file room).answer ≡ Unmoved (suc k)
  whole-refused file room k whole fault =
      ap (λ (l : List ℕ). (way l room).answer) (sym (joined-records size file whole))
      ∙ ap (λ (o : Outcome). o.answer) (records-refused (records_in size file) room k (sized_records size file) fault)

  -- TWO FILES, ONE BEHIND THE OTHER
  both_sound : (rs ss : List (List ℕ)) → faults rs ≡ 0 → faults ss ≡ 0 → faults (rs ++ ss) ≡ 0
  both_sound rs ss h k = go (faults (rs ++ ss)) refl
    where
      go : (n : ℕ) → faults (rs ++ ss) ≡ n → n ≡ 0
      go zero e = refl
      go (suc n) e = absurd (⊎_elim (λ g. omega arith) (λ g. omega arith) (w.either rs ss n e))

  module _ (a b : List ℕ) where
    records_both : List (List ℕ)
    records_both = records_in size a ++ records_in size b

    sized_both : Sized size records_both
    unfolding records_both
    sized_both = sized_append size (records_in size a) (records_in size b) (sized_records size a) (sized_records size b)

    moved_both : joined (map form records_both) ≡ moved_by form size a ++ moved_by form size b
    unfolding records_both moved_by
    moved_both = ap joined (map-append form (records_in size a) (records_in size b)) ∙ joined-append (map form (records_in size a)) (map form (records_in size b))

    pub both_move : (room₁ room₂ n m : ℕ) → (way a room₁).answer ≡ Moved n → (way b room₂).answer ≡ Moved m → (room : ℕ) → n + m ≤ room
        → way (a ++ b) room ≡ record {
          answer = Moved (n + m);
          room = (take n (way a room₁).room ++ take m (way b room₂).room) ++ replicate (room - (n + m)) 0;
        }
    unfolding records_both
    both_move room₁ room₂ n m h k room fits =
        let left = accepted a room₁ n h in
        let right = accepted b room₂ m k in
        let long : length (moved_by form size a ++ moved_by form size b) ≡ n + m = simp length-append (omega (arith, left.count, right.count)) in
        let enough : length (joined (map form records_both)) ≤ room = rw (moved_both, long) fits in
        ap (λ (l : List ℕ). way l room) (join_files size a b left.whole right.whole)
        ∙ records-move records_both room sized_both (both_sound (records_in size a) (records_in size b) left.sound right.sound) enough
        ∙ rw (moved_both, long, front a room₁ n h, front b room₂ m k)

    pub either-refused : length a % size ≡ 0 → length b % size ≡ 0 → (room number : ℕ) → (way (a ++ b) room).answer ≡ Unmoved number
        → (number ≡ 4) ⊎ (((room' : ℕ) → (way a room').answer ≡ Unmoved number) ⊎ ((room' : ℕ) → (way b room').answer ≡ Unmoved number))
    unfolding records_both
    either-refused wa wb room number h =
        let told =
        numbered (refusal_of size form faults (joined records_both) room) (moved_by form size (joined records_both)) room number
        (answer-is (joined records_both) room (ap (λ (l : List ℕ). (way l room).answer) (sym (join_files size a b wa wb)) ∙ h)) in
        go (faults records_both) refl (room <? length (joined (map form records_both))) (sym (refusal-of records_both room sized_both) ∙ told.0) told.1
      where
        go : (n : ℕ) → faults (records_in size a ++ records_in size b) ≡ n → (short : Bool) → first n (met short 4) ≡ number → 0 < number
            → (number ≡ 4) ⊎ (((room' : ℕ) → (way a room').answer ≡ Unmoved number) ⊎ ((room' : ℕ) → (way b room').answer ≡ Unmoved number))
        go zero e true r some = inl (sym r)
        go zero e false r some = absurd (omega arith)
        go (suc k) e short r some =
            inr
            (⊎_elim (λ g. inl (λ room'. whole-refused a room' k wa g ∙ ap Unmoved r)) (λ g. inr (λ room'. whole-refused b room' k wb g ∙ ap Unmoved r))
            (w.either (records_in size a) (records_in size b) k e))

-- ONE WAY AND THEN THE OTHER, where the second form undoes the first
module _ {size to : ℕ} {form back : List ℕ → List ℕ} {faults others : List (List ℕ) → ℕ} {way other : List ℕ → ℕ → Outcome}
    (w : Way size to form faults way) (v : Way to size back others other) where
  pub go_back : ((rs : List (List ℕ)) → Sized size rs → faults rs ≡ 0 → others (map form rs) ≡ 0)
      → ((rs : List (List ℕ)) → Sized size rs → faults rs ≡ 0 → map back (map form rs) ≡ rs)
      → (file : List ℕ) (room n : ℕ) → (way file room).answer ≡ Moved n → (room' : ℕ) → length file ≤ room'
      → other (take n (way file room).room) room' ≡ moved_in file room'
  unfolding moved_by
  go_back good undone file room n h room' enough =
      let a = accepted w file room n h in
      let rs = records_in size file in
      let sized = sized_records size file in
      let again : joined (map back (map form rs)) ≡ file = ap joined (undone rs sized a.sound) ∙ joined-records size file a.whole in
      let long : length (joined (map back (map form rs))) ≤ room' = rw again enough in
      ap (λ (l : List ℕ). other l room') (front w file room n h)
      ∙ records-move v (map form rs) room' (sized_map form size to w.makes rs sized) (good rs sized a.sound) long
      ∙ ap (λ (l : List ℕ). moved_in l room') again
