-- The two forms of a record, as the code writes them.
--     Makes            a form makes so many bytes
--     whole            ratio 100 and place 1 as one number, as the code reads and writes them
--     new-makes, old-makes     how many bytes the two forms have
--     new-put, old-put         what is left where the old bytes are copied, and ratio, place and zeros written behind them
use Rattle.std.specs.Prelude.{ℕ, ◌≤◌, ◌≡◌, List, [], ◌++◌, length, take, drop}
use Rattle.std.proofs.Common.{sym, ◌∙◌, append-nil, append_assoc, arith, length-append, length-drop, drop_of_length-le, length-take-le, take_all, take_at, drop_at}
use Rattle.meaning.specs.Results.{little_endian, record_size, old_record_size}
use Rattle.meaning.specs.Moving.{new_form, old_form, whole_ratio}
use Rattle.sequences.specs.Parts.{put}

-- A form makes so many bytes of a record of so many.
abbrev pub Makes : (form : List ℕ → List ℕ) → (size to : ℕ) → Type 0
Makes form size to = (r : List ℕ) → length r ≡ size → length (form r) ≡ to

abbrev pub whole : ℕ
whole = 65_636

pub new-makes : Makes new_form old_record_size record_size
new-makes r h = simp length-append (omega arith)

pub old-makes : Makes old_form record_size old_record_size
old-makes r h = length-take-le old_record_size r (omega arith)

pub new-put : (from to copied said written : List ℕ) → length to ≡ record_size → length from ≡ old_record_size
    → copied ≡ take old_record_size from ++ drop old_record_size to → said ≡ put old_record_size 4 copied (little_endian 4 whole) → written ≡ put 36 4 said (little_endian 4 0)
    → written ≡ new_form from
new-put from to copied said written room size e f g =
    let rest = drop old_record_size to in
    let front = from ++ whole_ratio in
    let all : take old_record_size from ≡ from = take_all old_record_size from (omega arith) in
    let apart : said ≡ front ++ drop 4 rest =
    f ∙ rw (e, all, take_at from rest old_record_size size, drop_at from rest old_record_size size) (sym (append_assoc from whole_ratio (drop 4 rest))) in
    let long : length front ≡ 36 = length-append from whole_ratio ∙ omega arith in
    let end : length (drop 4 rest) ≤ 4 = simp length-drop (omega arith) in
    let none : drop 4 (drop 4 rest) ≡ [] = drop_of_length-le (drop 4 rest) end in
    g ∙ rw (apart, take_at front (drop 4 rest) 36 long, drop_at front (drop 4 rest) 36 long, none)

pub old-put : (from to copied : List ℕ) → length to ≡ old_record_size → copied ≡ take old_record_size from ++ drop old_record_size to → copied ≡ old_form from
old-put from to copied room e =
    let end : length to ≤ old_record_size = omega arith in
    let none : drop old_record_size to ≡ [] = drop_of_length-le to end in
    e ∙ rw none (append-nil (take old_record_size from))
