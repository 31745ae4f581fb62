-- What a caller may rely on when files are moved.
--     there_and_back, back_and_there     a file that was moved one way moves back to what it was, byte for byte
--     new-joined, old-joined             files one behind the other move as each by itself, so that a store can be cut between any two records
--     new-refused-joined, old-refused-joined     .. and what refuses them together, but for the room, refuses one of the two
--     records_to_new, records_to_old     a file made of records moves where none has a fault and there is room
--     records-filled-new, records-filled, records_other     .. and is refused where one has
use Rattle.std.specs.Prelude.{ℕ, ◌+◌, ◌-◌, ◌%◌, ◌≤◌, ◌≡◌, true, false, List, ◌++◌, map, ◌⊎◌, length, take, replicate}
use Rattle.meaning.specs.Results.{record_size, old_record_size}
use Rattle.meaning.specs.Moving.{old_padding, new_padding, new_form, old_form, joined, any_filled, any_other, Moved, Unmoved, to_new, to_old}
use Rattle.files.specs.Joined.{Sized}
use Rattle.moving.specs.Ways.{new_way, old_way}
use Rattle.files.specs.Movers.{records-move, records-refused, both_move, either-refused, go_back}
use Rattle.files.specs.Undone.{new-sound, new_undone, old-sound, old_undone}

-- THERE AND BACK. A file of the old form that was moved: the bytes that were written, moved back into room enough, are the file, with zeros behind it.
pub there_and_back : (file : List ℕ) (room n : ℕ) → (to_new file room).answer ≡ Moved n → (room' : ℕ) → length file ≤ room'
    → to_old (take n (to_new file room).room) room' ≡ record { answer = Moved (length file); room = file ++ replicate (room' - length file) 0 }
there_and_back = go_back new_way old_way new-sound new_undone

-- And a file of the new form.
pub back_and_there : (file : List ℕ) (room n : ℕ) → (to_old file room).answer ≡ Moved n → (room' : ℕ) → length file ≤ room'
    → to_new (take n (to_old file room).room) room' ≡ record { answer = Moved (length file); room = file ++ replicate (room' - length file) 0 }
back_and_there = go_back old_way new_way old-sound old_undone

-- FILES ONE BEHIND THE OTHER. Both moved, and room for both: the moved bytes stand one behind the other.
module _ (a b : List ℕ) where
  pub new-joined : (room₁ room₂ n m : ℕ) → (to_new a room₁).answer ≡ Moved n → (to_new b room₂).answer ≡ Moved m → (room : ℕ) → n + m ≤ room
      → to_new (a ++ b) room ≡ record {
        answer = Moved (n + m);
        room = (take n (to_new a room₁).room ++ take m (to_new b room₂).room) ++ replicate (room - (n + m)) 0;
      }
  new-joined = both_move new_way a b

  pub old-joined : (room₁ room₂ n m : ℕ) → (to_old a room₁).answer ≡ Moved n → (to_old b room₂).answer ≡ Moved m → (room : ℕ) → n + m ≤ room
      → to_old (a ++ b) room ≡ record {
        answer = Moved (n + m);
        room = (take n (to_old a room₁).room ++ take m (to_old b room₂).room) ++ replicate (room - (n + m)) 0;
      }
  old-joined = both_move old_way a b

  -- Of whole records both, and refused together: for the room, or for what refuses one of the two in any room.
  pub new-refused-joined : length a % old_record_size ≡ 0 → length b % old_record_size ≡ 0 → (room number : ℕ) → (to_new (a ++ b) room).answer ≡ Unmoved number
      → (number ≡ 4) ⊎ (((room' : ℕ) → (to_new a room').answer ≡ Unmoved number) ⊎ ((room' : ℕ) → (to_new b room').answer ≡ Unmoved number))
  new-refused-joined = either-refused new_way a b

  pub old-refused-joined : length a % record_size ≡ 0 → length b % record_size ≡ 0 → (room number : ℕ) → (to_old (a ++ b) room).answer ≡ Unmoved number
      → (number ≡ 4) ⊎ (((room' : ℕ) → (to_old a room').answer ≡ Unmoved number) ⊎ ((room' : ℕ) → (to_old b room').answer ≡ Unmoved number))
  old-refused-joined = either-refused old_way a b

-- A FILE MADE OF RECORDS, each of the form's size.
module _ (rs : List (List ℕ)) (room : ℕ) where
  pub records_to_new : Sized old_record_size rs → any_filled old_padding rs ≡ false → length (joined (map new_form rs)) ≤ room
      → to_new (joined rs) room ≡ record { answer = Moved (length (joined (map new_form rs))); room = joined (map new_form rs) ++ replicate (room - length (joined (map new_form rs))) 0 }
  records_to_new sized clean enough = records-move new_way rs room sized (rw clean) enough

  pub records-filled-new : Sized old_record_size rs → any_filled old_padding rs ≡ true → to_new (joined rs) room ≡ record { answer = Unmoved 2; room = replicate room 0 }
  records-filled-new sized dirty = records-refused new_way rs room 1 sized (rw dirty)

  pub records_to_old : Sized record_size rs → any_filled new_padding rs ≡ false → any_other rs ≡ false → length (joined (map old_form rs)) ≤ room
      → to_old (joined rs) room ≡ record { answer = Moved (length (joined (map old_form rs))); room = joined (map old_form rs) ++ replicate (room - length (joined (map old_form rs))) 0 }
  records_to_old sized clean plain enough = records-move old_way rs room sized (rw (clean, plain)) enough

  pub records-filled : Sized record_size rs → any_filled new_padding rs ≡ true → to_old (joined rs) room ≡ record { answer = Unmoved 2; room = replicate room 0 }
  records-filled sized dirty = records-refused old_way rs room 1 sized (rw dirty)

  pub records_other : Sized record_size rs → any_filled new_padding rs ≡ false → any_other rs ≡ true → to_old (joined rs) room ≡ record { answer = Unmoved 3; room = replicate room 0 }
  records_other sized clean other = records-refused old_way rs room 2 sized (rw (clean, other))
