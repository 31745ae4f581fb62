-- A record that the engine makes, as the mover sees it.
--     record_clean      its padding is zero
--     record_whole, record_other     it has an old form just where its ratio is 1.00 at place 1
--     record_old        and that is the record as it was before it said its ratio
use Rattle.std.specs.Prelude.{ℕ, ◌+◌, ◌/◌, ◌%◌, ◌^◌, ◌<◌, ◌≡◌, false, not, List, ◌++◌, length, take, drop, get_or}
use Rattle.std.proofs.Math.Path.{sym, ap}
use Rattle.std.proofs.Common.{◌∙◌, get_or-append-add}
use Rattle.std.proofs.Math.Bool.{true}
use borrow.Author.Tests.{eqb-true, not-false}
use Rattle.std.proofs.Math.Seq.{take_at, drop_at}
use Rattle.meaning.specs.Words.{same}
use Rattle.meaning.specs.Water.{sum_of}
use Rattle.meaning.specs.Blocks.{kind_number, kind_of}
use Rattle.meaning.specs.Results.{Result, peak_of, interval_of, little_endian, blanks_after, label_of, old_record_size, old_record_of, record_of}
use Rattle.meaning.specs.Moving.{new_padding, whole_ratio, old_form, filled, other_ratio}
use Rattle.sequences.specs.Choices.{both_hold}
use Rattle.slices.specs.Bytes.{from_little_endian, read_back}
use Rattle.results.specs.Record.{behind_name, record_of_lem, behind-name, length-blanks_after, length-old}
use Rattle.results.specs.Records.{Named}

pub length-old_record : (r : Result) → Named r → length (old_record_of r) ≡ old_record_size
unfolding old_record_of
length-old_record r named =
    let flow = r.held.flow in
    length-old r.block.name (kind_number (kind_of r.block)) r.held.area (peak_of flow) (interval_of (peak_of flow) flow) (sum_of flow) named

module _ (ratio place : ℕ) (r : Result) (named : Named r) where
  abbrev behind : List ℕ
  behind =
      let flow = r.held.flow in
      behind_name (kind_number (kind_of r.block)) r.held.area (peak_of flow) (interval_of (peak_of flow) flow) (sum_of flow) ratio place

  byte : (k : ℕ) → get_or (record_of ratio place r) (6 + k) 0 ≡ get_or behind k 0
  byte k =
      let flow = r.held.flow in
      ap (λ (l : List ℕ). get_or l (6 + k) 0)
      (record_of_lem ratio place r ∙ behind-name r.block.name (kind_number (kind_of r.block)) r.held.area (peak_of flow) (interval_of (peak_of flow) flow) (sum_of flow) ratio place)
      ∙ ap (λ (n : ℕ). get_or (blanks_after 6 r.block.name ++ behind) (n + k) 0) (sym (length-blanks_after 6 r.block.name named))
      ∙ get_or-append-add (blanks_after 6 r.block.name) behind k 0

  pub record_clean : filled new_padding (record_of ratio place r) ≡ false
  record_clean = rw (byte 1, byte 16, byte 17, byte 30, byte 31, byte 32, byte 33)

  -- the old bytes, and the label behind them
  long : length (old_record_of r) ≡ old_record_size
  long = length-old_record r named

  pub record_old : old_form (record_of ratio place r) ≡ old_record_of r
  unfolding record_of
  record_old = take_at (old_record_of r) (label_of ratio place) old_record_size long

  label_behind : drop old_record_size (record_of ratio place r) ≡ label_of ratio place
  unfolding record_of
  label_behind = drop_at (old_record_of r) (label_of ratio place) old_record_size long

  other_by : other_ratio (record_of ratio place r) ≡ not (same (take 4 (label_of ratio place)) whole_ratio)
  other_by = ap (λ (l : List ℕ). not (same (take 4 l) whole_ratio)) label_behind

  pub record_whole : ratio ≡ 100 → place ≡ 1 → other_ratio (record_of ratio place r) ≡ false
  unfolding same
  record_whole e f = other_by ∙ rw (e, f)

  pub record_other : ratio < 256 ^ 2 → place < 256 ^ 2 → other_ratio (record_of ratio place r) ≡ false → (ratio ≡ 100) × (place ≡ 1)
  unfolding same
  record_other small near plain =
      let all : same (take 4 (label_of ratio place)) whole_ratio ≡ true = not-false _ (sym other_by ∙ plain) in
      let a = both_hold _ _ all in
      let b = both_hold _ _ a.1 in
      let c = both_hold _ _ b.1 in
      let d = both_hold _ _ c.1 in
      let ratio-low : ratio % 256 ≡ 100 = eqb-true _ _ a.0 in
      let ratio-high : ratio / 256 % 256 ≡ 0 = eqb-true _ _ b.0 in
      let place-low : place % 256 ≡ 1 = eqb-true _ _ c.0 in
      let place-high : place / 256 % 256 ≡ 0 = eqb-true _ _ d.0 in
      let ratio-bytes : little_endian 2 ratio ≡ little_endian 2 100 = rw (ratio-low, ratio-high) in
      let place-bytes : little_endian 2 place ≡ little_endian 2 1 = rw (place-low, place-high) in
      (sym (read_back 2 ratio small) ∙ ap from_little_endian ratio-bytes, sym (read_back 2 place near) ∙ ap from_little_endian place-bytes)
