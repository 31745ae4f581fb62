-- The lines of some records, those under each ratio, and the last line behind them.
--     lines_to, under_to     of the first records, and of the records under the first ratios
--     blocks_text           of all records
--     lines_more, under_more   one more; under_here: as the code writes it
--     blocks_alone, blocks_under   without ratios, and with them
use Rattle.std.specs.Prelude.{◌≡◌, refl, List, [], ◌∷◌, ◌++◌, ℕ, zero, suc, ◌+◌, ◌-◌, ◌*◌, length, drop, get_or}
use Rattle.std.proofs.Common.{add-one, arith, length-append}
use Rattle.meaning.specs.Results.{record_size}
use Rattle.meaning.specs.Run.{record_bytes}
use Rattle.meaning.specs.Listing.{whole, two_places, ratio_line, end_line}
use Rattle.sequences.specs.Parts.{part, part_to_end}
use Rattle.text.specs.Written.{Written}
use Rattle.figures.specs.Line.{line_of}

-- The lines of the first records.
abbrev pub lines_to : ℕ → List ℕ → List ℕ
lines_to zero records = []
lines_to (suc k) records = lines_to k records ++ line_of (part (record_size * k) record_size records)

-- Under each of the first ratios its line, and the lines of its records.
abbrev pub under_to : ℕ → (ratios : List ℕ) → (blocks : ℕ) → List ℕ → List ℕ
under_to zero ratios blocks records = []
under_to (suc k) ratios blocks records = under_to k ratios blocks records ++ (ratio_line (get_or ratios k 0) ++ lines_to blocks (drop (record_bytes blocks k) records))

-- Without ratios there is one lot of records, and no line but theirs.
abbrev pub blocks_text : (ratios : List ℕ) → (blocks : ℕ) → List ℕ → List ℕ
blocks_text [] blocks records = lines_to blocks records
blocks_text (r ∷ ratios) blocks records = under_to (length (r ∷ ratios)) (r ∷ ratios) blocks records

unfoldable pub listing_of : (ratios : List ℕ) → (blocks : ℕ) → List ℕ → List ℕ
listing_of ratios blocks records = blocks_text ratios blocks records ++ end_line blocks

pub length-ratio : (ratio : ℕ) → length (ratio_line ratio) ≡ length (two_places ratio) + 7
unfolding ratio_line
length-ratio ratio = simp length-append (omega arith)

pub length-end : (blocks : ℕ) → length (end_line blocks) ≡ length (whole blocks) + 5
unfolding end_line
length-end blocks = simp length-append (omega arith)

pub lines_more : (k : ℕ) (records : List ℕ) → lines_to (k + 1) records ≡ lines_to k records ++ line_of (part (record_size * k) record_size records)
lines_more k records = rw add-one

module _ (ratios : List ℕ) (blocks : ℕ) (records : List ℕ) where
  pub under_more : (k : ℕ) → under_to (k + 1) ratios blocks records
      ≡ under_to k ratios blocks records ++ (ratio_line (get_or ratios k 0) ++ lines_to blocks (drop (record_bytes blocks k) records))
  under_more k = rw add-one

  -- what is written from the place on where a ratio's records begin
  pub under_here : (k : ℕ) {r p at behind : ℕ} {out next : List ℕ} → Written out at (ratio_line r ++ lines_to blocks (part p (length records - p) records)) next behind
      → r ≡ get_or ratios k 0 → p ≡ record_bytes blocks k
      → Written out at (ratio_line (get_or ratios k 0) ++ lines_to blocks (drop (record_bytes blocks k) records)) next behind
  under_here k {r} {p} w ratio place = rw (part_to_end p records, ratio, place) at w

pub blocks_alone : (ratios : List ℕ) (blocks : ℕ) (records : List ℕ) → length ratios ≡ 0 → blocks_text ratios blocks records ≡ lines_to blocks records
blocks_alone [] blocks records none = refl
blocks_alone (r ∷ ratios) blocks records none = absurd (omega arith)

pub blocks_under : (ratios : List ℕ) (blocks : ℕ) (records : List ℕ) → (length ratios ≡ 0 → ⊥) → blocks_text ratios blocks records ≡ under_to (length ratios) ratios blocks records
blocks_under [] blocks records some = absurd (some refl)
blocks_under (r ∷ ratios) blocks records some = refl
