-- The line of a record is the meaning's line of its result.
--     Fits       what a record of record_size bytes can hold
--     line-of    the line of a result's record is the line that is listed
--     fits       a block whose name, area and flows are within their limits fits
use Rattle.std.specs.Prelude.{◌≡◌, false, ℕ, ◌+◌, ◌-◌, ◌*◌, ◌^◌, ◌≤◌, ◌<◌, length}
use Rattle.std.proofs.Math.Path.{ap}
use Rattle.std.proofs.Common.{◌∙◌, mul-le-mul_right, arith, take_at, drop_at, drop-drop}
use mathlib.Core.List.{List, [], ◌∷◌, ◌++◌, append_assoc}
use Rattle.meaning.specs.Lines.{lf, blank}
use Rattle.meaning.specs.Fields.{trim_end, is_blank}
use Rattle.meaning.specs.Records.{any_blank, most_ordinates}
use Rattle.meaning.specs.Water.{flow_limit, sum_of}
use Rattle.meaning.specs.Blocks.{Kind, NoKind, Basin, Inflow, Confluence, Reach, Pond, kind_number, kind_of}
use Rattle.meaning.specs.Results.{Result, peak_of, interval_of, blanks_after, record_of}
use Rattle.meaning.specs.Listing.{whole, two_places, rounded, listed}
use Rattle.sequences.specs.Parts.{part}
use Rattle.summary.specs.Peaks.{interval_bound, sum_bound}
use Rattle.results.specs.Record.{record_bytes, record_of_lem, length-blanks_after, behind_name, behind-name}
use Rattle.slices.specs.Bytes.{from_little_endian, read_back}
use Rattle.text.specs.Trim.{trim_name}
use Rattle.figures.specs.declared.Figures.{Figures}
use Rattle.figures.specs.Line.{figures_of, figures_text, line_of}

module _ (name : List ℕ) (kind area peak interval sum ratio place : ℕ) (short : length name ≤ 6) where
  apart : record_bytes name kind area peak interval sum ratio place ≡ blanks_after 6 name ++ behind_name kind area peak interval sum ratio place
  apart = behind-name name kind area peak interval sum ratio place

  name-part : part 0 6 (record_bytes name kind area peak interval sum ratio place) ≡ blanks_after 6 name
  name-part = rw apart (take_at (blanks_after 6 name) _ 6 (length-blanks_after 6 name short))

  -- a part behind the name
  figure-part : (a n : ℕ) → part (6 + a) n (record_bytes name kind area peak interval sum ratio place) ≡ part a n (behind_name kind area peak interval sum ratio place)
  figure-part a n = rw (apart, ← drop-drop a 6 (blanks_after 6 name ++ behind_name kind area peak interval sum ratio place), drop_at (blanks_after 6 name) _ 6 (length-blanks_after 6 name short))

same_figures : {k a p i s k' a' p' i' s' : ℕ} → k ≡ k' → a ≡ a' → p ≡ p' → i ≡ i' → s ≡ s'
    → ◌≡◌ {A = Figures} (record { kind = k; area = a; peak = p; interval = i; sum = s }) (record { kind = k'; area = a'; peak = p'; interval = i'; sum = s' })
same_figures e f g h l = rw (e, f, g, h, l)

-- What a record can hold.
pub record Fits (r : Result) : Type 0 where
  pub short : length r.block.name ≤ 6
  pub plain : any_blank r.block.name ≡ false
  pub area : r.held.area < 256 ^ 4
  pub peak : peak_of r.held.flow < 256 ^ 8
  pub interval : interval_of (peak_of r.held.flow) r.held.flow < 256 ^ 2
  pub sum : sum_of r.held.flow < 256 ^ 8

kind_below : (k : Kind) → kind_number k < 256 ^ 1
kind_below NoKind = omega arith
kind_below Basin = omega arith
kind_below Inflow = omega arith
kind_below Confluence = omega arith
kind_below Reach = omega arith
kind_below Pond = omega arith

regroup : (n a b c d e f : List ℕ) → n ++ (a ++ b ++ c ++ d ++ e ++ f) ≡ n ++ a ++ b ++ c ++ d ++ e ++ f
regroup n a b c d e f = simp append_assoc

-- the figures of a result
abbrev figures_in : Result → Figures
figures_in r =
    record {
      kind = kind_number (kind_of r.block);
      area = r.held.area;
      peak = rounded (peak_of r.held.flow);
      interval = interval_of (peak_of r.held.flow) r.held.flow;
      sum = sum_of r.held.flow;
    }

module _ (ratio place : ℕ) (r : Result) (fit : Fits r) where
  abbrev f : Figures
  f = figures_in r

  abbrev peak : ℕ
  peak = peak_of r.held.flow

  figure_at : (a n : ℕ) → part (6 + a) n (record_of ratio place r) ≡ part a n (behind_name f.kind f.area peak f.interval f.sum ratio place)
  figure_at a n = ap (part (6 + a) n) (record_of_lem ratio place r) ∙ figure-part r.block.name f.kind f.area peak f.interval f.sum ratio place fit.short a n

  figures-of : figures_of (record_of ratio place r) ≡ f
  figures-of =
      same_figures
      (ap from_little_endian (figure_at 0 1) ∙ read_back 1 f.kind (kind_below (kind_of r.block)))
      (ap from_little_endian (figure_at 2 4) ∙ read_back 4 f.area fit.area)
      (ap rounded (ap from_little_endian (figure_at 6 8) ∙ read_back 8 peak fit.peak))
      (ap from_little_endian (figure_at 14 2) ∙ read_back 2 f.interval fit.interval)
      (ap from_little_endian (figure_at 18 8) ∙ read_back 8 f.sum fit.sum)

  name_of : trim_end is_blank (part 0 6 (record_of ratio place r)) ≡ r.block.name
  name_of =
      ap (λ (l : List ℕ). trim_end is_blank (part 0 6 l)) (record_of_lem ratio place r)
      ∙ ap (trim_end is_blank) (name-part r.block.name f.kind f.area peak f.interval f.sum ratio place fit.short)
      ∙ trim_name r.block.name (6 - length r.block.name) fit.plain

  line_parts : line_of (record_of ratio place r) ≡ r.block.name ++ figures_text f
  unfolding line_of
  line_parts = ap (λ (l : List ℕ). l ++ figures_text (figures_of (record_of ratio place r))) name_of ∙ ap (λ (g : Figures). r.block.name ++ figures_text g) figures-of

  pub line-of : line_of (record_of ratio place r) ≡ listed r
  unfolding figures_text listed
  line-of =
      line_parts
      ∙ regroup r.block.name (blank ∷ whole f.kind) (blank ∷ two_places f.area) (blank ∷ two_places f.peak) (blank ∷ whole f.interval) (blank ∷ whole f.sum) (lf ∷ [])

-- the limits that a closed block is held to
pub fits : (r : Result) → length r.block.name ≤ 6 → any_blank r.block.name ≡ false → r.held.area < 256 ^ 4
    → length r.held.flow ≤ most_ordinates → peak_of r.held.flow ≤ flow_limit → Fits r
fits r short plain area long low =
    let q = r.held.flow in
    let times : length q * flow_limit ≤ most_ordinates * flow_limit = mul-le-mul_right flow_limit long in
    record {
      short = short;
      plain = plain;
      area = area;
      peak = omega arith;
      interval = omega (arith, interval_bound q (peak_of q));
      sum = omega (arith, sum_bound q flow_limit low);
    }
