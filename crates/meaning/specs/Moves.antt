-- Document 02, CR 4, in figures: what a record says of its ratio, and what the mover makes of files. Tables, by computation.
use Rattle.std.specs.Prelude.{ℕ, ◌*◌, refl, List, [], ◌∷◌, ◌++◌, take, drop}
use Rattle.meaning.specs.Words.{bytes}
use Rattle.meaning.specs.Results.{little_endian, record_size}
use Rattle.meaning.specs.Run.{Lent, outcome}
use Rattle.meaning.specs.Moving.{Move, Moved, Unmoved, to_new, to_old}
use Rattle.meaning.specs.Computing.{computing}
use Rattle.meaning.specs.Pond.{Row, row, Agree}

-- A basin with these lines behind IT; and of what it leaves in 120 bytes for records, the last eight bytes of the record at a place, counted from 0.
abbrev basin : List ℕ → List ℕ
basin before = bytes "*FREE\nIT 60,,,1\n" ++ before ++ bytes "KK A\nBA 1\nPI 1\nLU\nUI 1\nZZ\n"

abbrev lent : Lent
lent = record { work = 6_000; ordinates = 1; records = 120 }

abbrev said : ℕ → List ℕ → List ℕ
said k before = take 8 (drop 32 (drop (record_size * k) (outcome (basin before) 0 0 lent).records))

abbrev says_table : List Row
says_table =
    -- without JR ratio 100 and place 1; with it the ratio and its place, equal ratios each with its own
    row (said 0 []) (100 ∷ 0 ∷ 1 ∷ 0 ∷ 0 ∷ 0 ∷ 0 ∷ 0 ∷ []) ∷
    row (said 0 (bytes "JR PREC,1\n")) (100 ∷ 0 ∷ 1 ∷ 0 ∷ 0 ∷ 0 ∷ 0 ∷ 0 ∷ []) ∷
    row (said 0 (bytes "JR PREC,9.99,.01,9.99\n")) (231 ∷ 3 ∷ 1 ∷ 0 ∷ 0 ∷ 0 ∷ 0 ∷ 0 ∷ []) ∷
    row (said 1 (bytes "JR PREC,9.99,.01,9.99\n")) (1 ∷ 0 ∷ 2 ∷ 0 ∷ 0 ∷ 0 ∷ 0 ∷ 0 ∷ []) ∷
    row (said 2 (bytes "JR PREC,9.99,.01,9.99\n")) (231 ∷ 3 ∷ 3 ∷ 0 ∷ 0 ∷ 0 ∷ 0 ∷ 0 ∷ []) ∷
    []

pub says : Agree says_table
unfolding computing
says =
    (refl, (refl, (refl, (refl, (refl, tt)))))

-- An old record with these bytes in the three places of its padding, all bytes of its sum full; and a new one.
abbrev old : (a b c : ℕ) → List ℕ
old a b c = bytes "POND  " ++ (1 ∷ a ∷ []) ++ little_endian 4 1 ++ little_endian 8 210_600_000 ++ little_endian 2 8 ++ (b ∷ c ∷ []) ++ little_endian 8 18_446_744_073_709_551_615

abbrev new : (ratio place zeros : ℕ) → List ℕ → List ℕ
new ratio place zeros r = r ++ little_endian 2 ratio ++ little_endian 2 place ++ little_endian 4 zeros

abbrev sound : List ℕ
sound = old 0 0 0

abbrev whole : List ℕ
whole = new 100 1 0 sound

-- 0 and how many bytes were moved, or the refusal's number.
abbrev answer_in : Move → List ℕ
answer_in (Moved count) = 0 ∷ count ∷ []
answer_in (Unmoved number) = number ∷ []

abbrev new_table : List Row
new_table =
    -- one record and two; room to spare is zeroed; an empty file moves to an empty one
    row (to_new sound 40).room whole ∷
    row (answer_in (to_new (sound ++ sound) 80).answer) (0 ∷ 80 ∷ []) ∷
    row (to_new sound 42).room (whole ++ (0 ∷ 0 ∷ [])) ∷
    row (answer_in (to_new [] 0).answer) (0 ∷ 0 ∷ []) ∷
    row (to_new [] 2).room (0 ∷ 0 ∷ []) ∷
    -- 1: a byte more, a byte less, whatever stands in the bytes and whatever the room
    row (answer_in (to_new (old 9 0 0 ++ (0 ∷ [])) 0).answer) (1 ∷ []) ∷
    row (answer_in (to_new (take 31 sound) 40).answer) (1 ∷ []) ∷
    -- 2: each byte of the padding, in the last record as in the first, before the room is looked at
    row (answer_in (to_new (old 1 0 0) 40).answer) (2 ∷ []) ∷
    row (answer_in (to_new (old 0 1 0) 40).answer) (2 ∷ []) ∷
    row (answer_in (to_new (sound ++ old 0 0 255) 0).answer) (2 ∷ []) ∷
    -- 4: room that is a byte short, or as long as the file; zeros then
    row (answer_in (to_new sound 39).answer) (4 ∷ []) ∷
    row (answer_in (to_new sound 32).answer) (4 ∷ []) ∷
    row (to_new sound 3).room (0 ∷ 0 ∷ 0 ∷ []) ∷
    []

pub new-form : Agree new_table
unfolding computing
new-form =
    (refl, (refl, (refl, (refl, (refl, (refl, (refl, (refl, (refl, (refl, (refl, (refl, (refl, tt)))))))))))))

abbrev old_table : List Row
old_table =
    -- back again; room to spare is zeroed; an empty file moves to an empty one
    row (to_old whole 32).room sound ∷
    row (answer_in (to_old (whole ++ whole) 80).answer) (0 ∷ 64 ∷ []) ∷
    row (to_old whole 33).room (sound ++ (0 ∷ [])) ∷
    row (answer_in (to_old [] 0).answer) (0 ∷ 0 ∷ []) ∷
    -- 1: a file in the old form, whatever stands in the bytes and whatever the room
    row (answer_in (to_old (old 9 0 0) 0).answer) (1 ∷ []) ∷
    -- 2: padding of the old form and of the new, in any record; before 3 of an earlier one, and before the room
    row (answer_in (to_old (whole ++ new 100 1 0 (old 0 255 0)) 64).answer) (2 ∷ []) ∷
    row (answer_in (to_old (new 100 1 1 sound) 32).answer) (2 ∷ []) ∷
    row (answer_in (to_old (new 150 3 0 sound ++ new 100 1 16_777_216 sound) 0).answer) (2 ∷ []) ∷
    -- 3: another ratio, another place, with the same low byte too; before the room
    row (answer_in (to_old (new 150 1 0 sound) 32).answer) (3 ∷ []) ∷
    row (answer_in (to_old (new 100 2 0 sound) 32).answer) (3 ∷ []) ∷
    row (answer_in (to_old (new 356 1 0 sound) 32).answer) (3 ∷ []) ∷
    row (answer_in (to_old (whole ++ new 100 257 0 sound) 0).answer) (3 ∷ []) ∷
    -- 4: room that is a byte short; zeros then
    row (answer_in (to_old whole 31).answer) (4 ∷ []) ∷
    row (to_old whole 3).room (0 ∷ 0 ∷ 0 ∷ []) ∷
    []

pub old-form : Agree old_table
unfolding computing
old-form =
    (refl, (refl, (refl, (refl, (refl, (refl, (refl, (refl, (refl, (refl, (refl, (refl, (refl, (refl, tt))))))))))))))
