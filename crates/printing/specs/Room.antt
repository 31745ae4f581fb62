-- How much room a listing takes.
--     lines_short    each of the lines of some records has at most line_size bytes
--     ratio_short    the line of a ratio has at most ratio_size
--     lot_fits       the records of each ratio are within those of all
--     under_short    each ratio and its records take at most their part of lines_size; blocks_short: and so all
--     listed_few     the ratios listed are no more than those of the records; one_there: of these there is one
--     end_short      the last line has at most end_size
use Rattle.std.specs.Prelude.{List, [], ◌∷◌, ◌++◌, ℕ, zero, suc, ◌+◌, ◌*◌, ◌/◌, ◌^◌, ◌≤◌, ◌<◌, length, drop, get_or}
use Rattle.std.proofs.Common.{le_refl, mul-le-mul_left, arith, length-append, length-drop, get_or-drop}
use Rattle.meaning.specs.Results.{record_size}
use Rattle.meaning.specs.Blocks.{or_whole}
use Rattle.meaning.specs.Run.{record_bytes}
use Rattle.meaning.specs.Listing.{ratio_line, end_line}
use Rattle.sequences.specs.Bounds.{AllUpTo, bound_part}
use Rattle.sequences.specs.Parts.{part, length_part}
use Rattle.text.specs.Digits.{whole_short, length-two_places}
use Rattle.figures.specs.Line.{line_of, line_size}
use Rattle.figures.specs.Room.{line_short}
use Rattle.printing.specs.Sizes.{most_ratio, ratio_size, lines_size, end_size}
use Rattle.printing.specs.Lines.{lines_to, under_to, blocks_text, length-ratio, length-end}

pub lines_short : (k : ℕ) (records : List ℕ) → AllUpTo 255 records → record_size * k ≤ length records → length (lines_to k records) ≤ line_size * k
lines_short zero records bytes long = omega arith
lines_short (suc k) records bytes long =
    let fits : record_size * k + record_size ≤ length records = omega arith in
    let before : record_size * k ≤ length records = omega arith in
    let r = part (record_size * k) record_size records in
    rw (length-append (lines_to k records) (line_of r))
    (omega (arith, lines_short k records bytes before, line_short r (bound_part 255 (record_size * k) record_size records bytes) (length_part (record_size * k) record_size records fits)))

pub ratio_short : (ratio : ℕ) → ratio ≤ most_ratio → length (ratio_line ratio) ≤ ratio_size
ratio_short ratio low = omega (arith, length-ratio ratio, length-two_places ratio, whole_short 0 (ratio / 100) (omega arith))

-- so many lots are no more than all, and one more is one lot more
pub lots_up : (size k n : ℕ) → k < n → size * k + size ≤ size * n
lots_up size k n below = omega (arith, mul-le-mul_left size below)

pub lot_fits : (blocks k n : ℕ) → k < n → record_bytes blocks k + record_size * blocks ≤ record_bytes blocks n
lot_fits blocks k n below = omega (arith, lots_up blocks k n below)

-- the bytes of a lot
pub bytes_on : (p : ℕ) (records : List ℕ) → AllUpTo 255 records → AllUpTo 255 (drop p records)
bytes_on p records bytes k = rw get_or-drop (bytes (p + k))

module _ (ratios : List ℕ) (blocks : ℕ) (records : List ℕ) (small : AllUpTo most_ratio ratios) (bytes : AllUpTo 255 records) where
  pub lot_short : (k : ℕ) → record_bytes blocks k + record_size * blocks ≤ length records → length (lines_to blocks (drop (record_bytes blocks k) records)) ≤ line_size * blocks
  lot_short k long = lines_short blocks (drop (record_bytes blocks k) records) (bytes_on (record_bytes blocks k) records bytes) (simp length-drop (omega arith))

  pub under_short : (k : ℕ) → record_bytes blocks k ≤ length records → length (under_to k ratios blocks records) ≤ lines_size blocks k
  under_short zero long = omega arith
  under_short (suc k) long =
      let here = lot_fits blocks k (suc k) (omega arith) in
      let ratio = ratio_short (get_or ratios k 0) (small k) in
      let lines = lot_short k (omega arith) in
      rw (
        length-append (under_to k ratios blocks records) (ratio_line (get_or ratios k 0) ++ lines_to blocks (drop (record_bytes blocks k) records)),
        length-append (ratio_line (get_or ratios k 0)) (lines_to blocks (drop (record_bytes blocks k) records)),
      )
      (omega (arith, under_short k (omega arith), lots_up (ratio_size + line_size * blocks) k (suc k) (omega arith)))

pub blocks_short : (ratios : List ℕ) (blocks : ℕ) (records : List ℕ) → AllUpTo most_ratio ratios → AllUpTo 255 records
    → record_bytes blocks (length (or_whole ratios)) ≤ length records → length (blocks_text ratios blocks records) ≤ lines_size blocks (length (or_whole ratios))
blocks_short [] blocks records small bytes long = omega (arith, lines_short blocks records bytes (omega arith))
blocks_short (r ∷ ratios) blocks records small bytes long = under_short (r ∷ ratios) blocks records small bytes (length (r ∷ ratios)) long

-- the ratios listed are no more than those of the records, and of these there is one
pub listed_few : (ratios : List ℕ) → length ratios ≤ length (or_whole ratios)
listed_few [] = omega arith
listed_few (r ∷ ratios) = le_refl (suc (length ratios))

pub one_there : (ratios : List ℕ) → 0 < length (or_whole ratios)
one_there [] = omega arith
one_there (r ∷ ratios) = omega arith

pub end_short : (blocks : ℕ) → blocks < 10 ^ 20 → length (end_line blocks) ≤ end_size
end_short blocks h = omega (arith, length-end blocks, whole_short 19 blocks h)
