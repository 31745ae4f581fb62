-- The text of a hydrograph as the code puts it together.
--     line_cells    a line is its interval and three cells; line-here: as the code writes it
--     line_short    it takes at most line_size bytes; lines_short: and each of all lines
--     lines_more    one line more behind those before it
--     minutes_at     the minutes of an interval where a block is found; minutes_there, no_minutes: as the code tells them
use Rattle.std.specs.Prelude.{ℕ, zero, suc, ◌+◌, ◌*◌, ◌≤◌, ◌<◌, ◌≡◌, refl, List, [], ◌∷◌, ◌++◌, length, take, get_or, None, Some}
use Rattle.std.proofs.Common.{sym, ap, ◌∙◌, append-nil, append_assoc, add-zero, mul-suc, add-one, arith, length-append}
use Rattle.meaning.specs.Words.{bytes}
use Rattle.meaning.specs.Lines.{lf}
use Rattle.meaning.specs.Blocks.{Time}
use Rattle.meaning.specs.Listing.{whole}
use Rattle.meaning.specs.Sheet.{Units, Customary, flow_text}
use Rattle.meaning.specs.Hydrograph.{ordinate_line, ordinate_lines}
use Rattle.text.specs.Digits.{whole_within}
use Rattle.text.specs.Written.{Written}
use Rattle.cells.specs.Cells.{cell}
use Rattle.cells.specs.Room.{count_short, flow_short}
use Rattle.finding.specs.declared.Found.{Found}
use Rattle.finding.specs.Place.{Place, Nowhere, At, FoundIs}
use Rattle.graphing.specs.Sizes.{most_minutes, line_size}

-- A LINE
line_regroup : (comma interval minutes cfs units end : List ℕ) → interval ++ comma ++ minutes ++ comma ++ cfs ++ comma ++ units ++ end
    ≡ interval ++ (comma ++ minutes) ++ (comma ++ cfs) ++ (comma ++ units) ++ end
line_regroup comma interval minutes cfs units end = simp append_assoc

module _ (minutes : ℕ) where
  line_cells : (interval flow : ℕ) → ordinate_line minutes interval flow
      ≡ whole interval ++ cell (whole (minutes * interval)) ++ cell (flow_text Customary flow) ++ cell (flow_text Units flow) ++ (lf ∷ [])
  unfolding ordinate_line
  line_cells interval flow = line_regroup (bytes ",") (whole interval) (whole (minutes * interval)) (flow_text Customary flow) (flow_text Units flow) (lf ∷ [])

  length_five : (a b c d e : List ℕ) → length (a ++ b ++ c ++ d ++ e) ≡ length a + length b + length c + length d + length e
  length_five a b c d e = simp length-append

  line_short : (interval flow : ℕ) → length (ordinate_line minutes interval flow) ≤ line_size
  line_short interval flow =
      let end = lf ∷ [] in
      rw (line_cells interval flow, length_five (whole interval) (cell (whole (minutes * interval))) (cell (flow_text Customary flow)) (cell (flow_text Units flow)) end)
      (omega (arith, whole_within interval, count_short (minutes * interval), flow_short Customary flow, flow_short Units flow))

  -- as it was written, from the figures that these are
  pub line-here : (interval flow : ℕ) {number end cfs units at behind : ℕ} {out next : List ℕ}
      → Written out at (whole number ++ cell (whole end) ++ cell (flow_text Customary cfs) ++ cell (flow_text Units units) ++ (lf ∷ [])) next behind
      → number ≡ interval → end ≡ minutes * interval → cfs ≡ flow → units ≡ flow → Written out at (ordinate_line minutes interval flow) next behind
  line-here interval flow w number_is end_is cfs-is units-is = rw (line_cells interval flow) (rw (number_is, end_is, cfs-is, units-is) at w)

  -- ALL LINES
  lines_next : (flows : List ℕ) (interval k : ℕ) → k < length flows
      → ordinate_lines minutes interval (take (suc k) flows) ≡ ordinate_lines minutes interval (take k flows) ++ ordinate_line minutes (interval + k) (get_or flows k 0)
  lines_next [] interval k h = absurd (omega arith)
  lines_next (flow ∷ flows) interval zero h = append-nil (ordinate_line minutes interval flow) ∙ ap (λ (i : ℕ). ordinate_line minutes i flow) (sym (add-zero interval))
  lines_next (flow ∷ flows) interval (suc k) h =
      let place : interval + 1 + k ≡ interval + suc k = omega arith in
      ap (λ (l : List ℕ). ordinate_line minutes interval flow ++ l)
      (lines_next flows (interval + 1) k (omega arith) ∙ ap (λ (i : ℕ). ordinate_lines minutes (interval + 1) (take k flows) ++ ordinate_line minutes i (get_or flows k 0)) place)
      ∙ sym (append_assoc (ordinate_line minutes interval flow) (ordinate_lines minutes (interval + 1) (take k flows)) (ordinate_line minutes (interval + suc k) (get_or flows k 0)))

  pub lines_more : (flows : List ℕ) (i : ℕ) → i < length flows
      → ordinate_lines minutes 1 (take (i + 1) flows) ≡ ordinate_lines minutes 1 (take i flows) ++ ordinate_line minutes (i + 1) (get_or flows i 0)
  lines_more flows i h =
      let place : 1 + i ≡ suc i = omega arith in
      rw add-one (lines_next flows 1 i h ∙ rw place)

  pub lines_short : (flows : List ℕ) (interval : ℕ) → length (ordinate_lines minutes interval flows) ≤ line_size * length flows
  lines_short [] interval = omega arith
  lines_short (flow ∷ flows) interval =
      rw (length-append (ordinate_line minutes interval flow) (ordinate_lines minutes (interval + 1) flows))
      (omega (arith, mul-suc line_size (length flows), line_short interval flow, lines_short flows (interval + 1)))

-- THE MINUTES, where a block is found
abbrev pub minutes_at : Place → ℕ
minutes_at Nowhere = 0
minutes_at (At τ b) = τ.minutes

pub minutes_there : (x : Found) (cards : List ℕ) (p : Place) → FoundIs p (Some x) cards → (x.time.minutes ≡ minutes_at p) × (x.time.minutes ≤ most_minutes)
minutes_there x cards Nowhere f = cc
minutes_there x cards (At τ b) f =
    let own : x.time.minutes ≡ τ.minutes = ap (λ (σ : Time). σ.minutes) f.time in
    (own, omega (arith, own, f.read.time.few-minutes))

pub no_minutes : (cards : List ℕ) (p : Place) → FoundIs p None cards → 0 ≡ minutes_at p
no_minutes cards Nowhere f = refl
no_minutes cards (At τ b) f = absurd f
