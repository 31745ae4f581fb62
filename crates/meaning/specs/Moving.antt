-- Document 02, CR 4: the mover. A result file is its records, one behind another: of 32 bytes in the old form, of 40 in the new.
use Rattle.std.specs.Prelude.{ℕ, zero, suc, ◌-◌, ◌/◌, ◌%◌, Bool, false, ◌||◌, not, List, [], ◌∷◌, ◌++◌, map, length, take, drop, get_or, replicate}
use Rattle.meaning.specs.Words.{◌=?◌, ◌<?◌, same, met, first}
use Rattle.meaning.specs.Results.{little_endian, record_size, old_record_size}

-- THE TWO FORMS. The bytes of a record that are padding, counted from 0.
abbrev pub old_padding : List ℕ
old_padding = 7 ∷ 22 ∷ 23 ∷ []

abbrev pub new_padding : List ℕ
new_padding = 7 ∷ 22 ∷ 23 ∷ 36 ∷ 37 ∷ 38 ∷ 39 ∷ []

-- Ratio 100, place 1: what every record has that moves back.
abbrev pub whole_ratio : List ℕ
whole_ratio = little_endian 2 100 ++ little_endian 2 1

-- An old record in the new form, and a new record in the old.
abbrev pub new_form : List ℕ → List ℕ
new_form r = r ++ whole_ratio ++ little_endian 4 0

abbrev pub old_form : List ℕ → List ℕ
old_form r = take old_record_size r

-- A FILE'S RECORDS, so many of so many bytes; and the file that records make.
abbrev pub records_from : (size count : ℕ) → List ℕ → List (List ℕ)
records_from size zero file = []
records_from size (suc count) file = take size file ∷ records_from size count (drop size file)

unfoldable pub records_in : (size : ℕ) → List ℕ → List (List ℕ)
records_in size file = records_from size (length file / size) file

abbrev pub joined : List (List ℕ) → List ℕ
joined [] = []
joined (r ∷ rs) = r ++ joined rs

-- REFUSALS. 1: length not a multiple of the record size.
abbrev pub length_refusal : (size : ℕ) → (file : List ℕ) → ℕ
length_refusal size file = met (not (length file % size =? 0)) 1

-- 2: non-zero padding, in any record.
abbrev pub filled : (padding : List ℕ) → (record' : List ℕ) → Bool
filled [] r = false
filled (p ∷ ps) r = not (get_or r p 0 =? 0) || filled ps r

unfoldable pub any_filled : (padding : List ℕ) → List (List ℕ) → Bool
any_filled padding [] = false
any_filled padding (r ∷ rs) = filled padding r || any_filled padding rs

-- 3: a ratio or place that has no old form, in any record.
abbrev pub other_ratio : List ℕ → Bool
other_ratio r = not (same (take 4 (drop old_record_size r)) whole_ratio)

unfoldable pub any_other : List (List ℕ) → Bool
any_other [] = false
any_other (r ∷ rs) = other_ratio r || any_other rs

-- 4: room under what is moved.
abbrev pub room_refusal : (room : ℕ) → (moved : List ℕ) → ℕ
room_refusal room moved = met (room <? length moved) 4

-- WHAT COMES BACK: how many bytes were moved, which stand first in the room, or the refusal's number. All other bytes of the room are zero.
pub data Move : Type 0 where
  Moved : (count : ℕ) → Move
  Unmoved : (number : ℕ) → Move

pub record Outcome : Type 0 where
  pub answer : Move
  pub room : List ℕ

abbrev pub moved_unless : ℕ → (moved : List ℕ) → (room : ℕ) → Outcome
moved_unless zero moved room = record { answer = Moved (length moved); room = moved ++ replicate (room - length moved) 0 }
moved_unless (suc number) moved room = record { answer = Unmoved (suc number); room = replicate room 0 }

-- THE MOVER, into a room of so many bytes. Each refusal is looked for over the whole file before the next.
unfoldable pub to_new : (file : List ℕ) → (room : ℕ) → Outcome
to_new file room =
    let records = records_in old_record_size file in
    let moved = joined (map new_form records) in
    moved_unless
    (first (length_refusal old_record_size file)
    (first (met (any_filled old_padding records) 2)
    (room_refusal room moved)))
    moved room

unfoldable pub to_old : (file : List ℕ) → (room : ℕ) → Outcome
to_old file room =
    let records = records_in record_size file in
    let moved = joined (map old_form records) in
    moved_unless
    (first (length_refusal record_size file)
    (first (met (any_filled new_padding records) 2)
    (first (met (any_other records) 3)
    (room_refusal room moved))))
    moved room
