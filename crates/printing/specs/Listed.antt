-- The listing of some records is the meaning's listing of their results.
--     lines_of      the lines of records are the lines that are listed
--     under_of      and so under each ratio, by its line
--     listing-of    with the block count behind them
use Rattle.std.specs.Prelude.{◌≡◌, refl, List, [], ◌∷◌, ◌++◌, ℕ, zero, suc, ◌+◌, ◌*◌, length, drop, get_or}
use Rattle.std.proofs.Common.{sym, ap, ◌∙◌, append-nil, append_assoc, arith, take_at, drop_at, drop-drop}
use Rattle.meaning.specs.Blocks.{Time, or_whole, ratios_of, ratio_at}
use Rattle.meaning.specs.Results.{Result, record_size, record_of, records_of}
use Rattle.meaning.specs.Run.{Done, block_count, all_records, record_bytes}
use Rattle.meaning.specs.Listing.{listed_all, ratio_line, listed_under, listing_by}
use Rattle.sequences.specs.Parts.{part}
use Rattle.results.specs.Records.{Each, Named, length_record, length-records}
use Rattle.figures.specs.Line.{line_of}
use Rattle.figures.specs.Listed.{Fits, line-of}
use Rattle.printing.specs.Lines.{lines_to, under_to, blocks_text, listing_of}

lines-front : (r records : List ℕ) (k : ℕ) → length r ≡ record_size → lines_to (suc k) (r ++ records) ≡ line_of r ++ lines_to k records
lines-front r records zero long = rw (take_at r records record_size long) (sym (append-nil (line_of r)))
lines-front r records (suc k) long =
    let place : record_size * suc k ≡ record_size + record_size * k = omega arith in
    let next : part (record_size * suc k) record_size (r ++ records) ≡ part (record_size * k) record_size records =
    rw (place, ← drop-drop (record_size * k) record_size (r ++ records), drop_at r records record_size long) in
    rw (next, lines-front r records k long) (append_assoc (line_of r) (lines_to k records) (line_of (part (record_size * k) record_size records)))

-- whatever ratio the records say
pub lines_of : (ratio place : ℕ) (rs : List Result) (rest : List ℕ) → Each Fits rs → lines_to (length rs) (records_of ratio place rs ++ rest) ≡ listed_all rs
lines_of ratio place [] rest fs = refl
lines_of ratio place (r ∷ rs) rest fs =
    ap (lines_to (suc (length rs))) (append_assoc (record_of ratio place r) (records_of ratio place rs) rest)
    ∙ lines-front (record_of ratio place r) (records_of ratio place rs ++ rest) (length rs) (length_record ratio place r fs.0.short)
    ∙ rw (line-of ratio place r fs.0, lines_of ratio place rs rest fs.1)

-- Under each ratio as many results, each with its record.
abbrev pub Lots : (blocks : ℕ) → List (List Result) → Type 0
Lots blocks [] = Unit {0}
Lots blocks (rs ∷ rss) = ((length rs ≡ blocks) × Each Fits rs) × Lots blocks rss

pub each_named : (rs : List Result) → Each Fits rs → Each Named rs
each_named [] fs = tt
each_named (r ∷ rs) fs = (fs.0.short, each_named rs fs.1)

-- the records of the first ratio, those of the others behind them
under_front : (r : ℕ) (ratios : List ℕ) (blocks : ℕ) (lot records : List ℕ) (k : ℕ) → length lot ≡ record_size * blocks
    → under_to (suc k) (r ∷ ratios) blocks (lot ++ records) ≡ (ratio_line r ++ lines_to blocks (lot ++ records)) ++ under_to k ratios blocks records
under_front r ratios blocks lot records zero long =
    let none : record_bytes blocks 0 ≡ 0 = omega arith in
    rw none (sym (append-nil (ratio_line r ++ lines_to blocks (lot ++ records))))
under_front r ratios blocks lot records (suc k) long =
    let place : record_bytes blocks (suc k) ≡ record_size * blocks + record_bytes blocks k = omega arith in
    let next : drop (record_bytes blocks (suc k)) (lot ++ records) ≡ drop (record_bytes blocks k) records =
    rw (place, ← drop-drop (record_bytes blocks k) (record_size * blocks) (lot ++ records), drop_at lot records (record_size * blocks) long) in
    rw (next, under_front r ratios blocks lot records k long)
    (append_assoc (ratio_line r ++ lines_to blocks (lot ++ records)) (under_to k ratios blocks records) (ratio_line (get_or ratios k 0) ++ lines_to blocks (drop (record_bytes blocks k) records)))

-- THE RECORDS of a deck, from those of the ratio at place k on
module _ (τ : Time) where
  abbrev records_at : ℕ → List Result → List ℕ
  records_at k rs = records_of (ratio_at k τ) (k + 1) rs

  lot_of : (k blocks : ℕ) (rs : List Result) (rest : List ℕ) → (length rs ≡ blocks) × Each Fits rs → lines_to blocks (records_at k rs ++ rest) ≡ listed_all rs
  lot_of k blocks rs rest lot = rw (← lot.0) (lines_of (ratio_at k τ) (k + 1) rs rest lot.1)

  under_of : (k : ℕ) (ratios : List ℕ) (blocks : ℕ) (rss : List (List Result)) (rest : List ℕ) → length rss ≡ length ratios → Lots blocks rss
      → under_to (length ratios) ratios blocks (all_records τ k rss ++ rest) ≡ listed_under ratios rss
  under_of k [] blocks [] rest alike lots = refl
  under_of k [] blocks (rs ∷ rss) rest alike lots = absurd (omega arith)
  under_of k (r ∷ ratios) blocks [] rest alike lots = absurd (omega arith)
  under_of k (r ∷ ratios) blocks (rs ∷ rss) rest alike lots =
      let long = length-records (ratio_at k τ) (k + 1) rs (each_named rs lots.0.1) ∙ ap (λ (n : ℕ). record_size * n) lots.0.0 in
      let more = all_records τ (k + 1) rss in
      ap (under_to (suc (length ratios)) (r ∷ ratios) blocks) (append_assoc (records_at k rs) more rest)
      ∙ under_front r ratios blocks (records_at k rs) (more ++ rest) (length ratios) long
      ∙ rw (lot_of k blocks rs (more ++ rest) lots.0, under_of (k + 1) ratios blocks rss rest (omega arith) lots.1)

  -- without ratios there is one lot
  blocks-of : (ratios : List ℕ) (rss : List (List Result)) (rest : List ℕ) → length rss ≡ length (or_whole ratios) → Lots (block_count rss) rss
      → blocks_text ratios (block_count rss) (all_records τ 0 rss ++ rest) ≡ listed_under ratios rss
  blocks-of [] [] rest alike lots = absurd (omega arith)
  blocks-of [] (rs ∷ []) rest alike lots =
      ap (lines_to (length rs)) (append_assoc (records_at 0 rs) [] rest) ∙ lines_of (ratio_at 0 τ) 1 rs rest lots.0.1 ∙ sym (append-nil (listed_all rs))
  blocks-of [] (rs ∷ qs ∷ rss) rest alike lots = absurd (omega arith)
  blocks-of (r ∷ ratios) rss rest alike lots = under_of 0 (r ∷ ratios) (block_count rss) rss rest alike lots

pub listing-of : (τ : Time) (rss : List (List Result)) (rest : List ℕ) → length rss ≡ length (ratios_of τ) → Lots (block_count rss) rss
    → listing_of τ.listed (block_count rss) (all_records τ 0 rss ++ rest) ≡ listing_by (Done τ rss)
unfolding listing_of
listing-of τ rss rest alike lots = rw (blocks-of τ τ.listed rss rest alike lots)
