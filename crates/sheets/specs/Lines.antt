-- Texts one behind another, as a loop writes them: cells in a line, and rows in a table.
--     many_more     one more is written behind those before it; cells_more, rows_more: a cell, a row
--     many_short    each within a size, all of them are within so many of it; cells_short, rows_short
--     row_none, row_some   an interval has a row by its excess
--     row_cells     a row is its number, the three depths, the shares; row_here: as the code writes it
use Rattle.std.specs.Prelude.{ℕ, zero, suc, ◌+◌, ◌*◌, ◌≤◌, ◌<◌, ◌≡◌, refl, List, [], ◌∷◌, ◌++◌, length, get_or}
use Rattle.std.proofs.Common.{sym, ap, ◌∙◌, append-nil, append_assoc, add-zero, mul-suc, add-one, arith, length-append, lt-ltb, le-ltb}
use Rattle.meaning.specs.Words.{when◌then◌else◌, bytes}
use Rattle.meaning.specs.Lines.{lf}
use Rattle.meaning.specs.Listing.{whole}
use Rattle.meaning.specs.Sheet.{Measure, Sheet, cells_from, depth_text, share_text, row_line, rows_from}
use Rattle.text.specs.Written.{Written}
use Rattle.cells.specs.Cells.{cell, depths_text, share_by}
use Rattle.cells.specs.Shares.{share-text}
use Rattle.sheets.specs.Tables.{row_at}

-- n texts, from the one at i on
abbrev many_from : (ℕ → List ℕ) → (i n : ℕ) → List ℕ
many_from text i zero = []
many_from text i (suc n) = text i ++ many_from text (i + 1) n

module _ (text : ℕ → List ℕ) where
  many-next : (i n : ℕ) → many_from text i (suc n) ≡ many_from text i n ++ text (i + n)
  many-next i zero = append-nil (text i) ∙ ap text (sym (add-zero i))
  many-next i (suc n) =
      let place : i + 1 + n ≡ i + suc n = omega arith in
      ap (λ (l : List ℕ). text i ++ l) (many-next (i + 1) n ∙ ap (λ (j : ℕ). many_from text (i + 1) n ++ text j) place)
      ∙ sym (append_assoc (text i) (many_from text (i + 1) n) (text (i + suc n)))

  many_more : (n : ℕ) → many_from text 0 (n + 1) ≡ many_from text 0 n ++ text n
  many_more n =
      let place : 0 + n ≡ n = omega arith in
      ap (many_from text 0) (add-one n) ∙ many-next 0 n ∙ ap (λ (j : ℕ). many_from text 0 n ++ text j) place

  many_short : (size : ℕ) → ((i : ℕ) → length (text i) ≤ size) → (i n : ℕ) → length (many_from text i n) ≤ size * n
  many_short size short i zero = omega arith
  many_short size short i (suc n) = rw (length-append (text i) (many_from text (i + 1) n)) (omega (arith, mul-suc size n, short i, many_short size short (i + 1) n))

-- CELLS
module _ (text : ℕ → List ℕ) where
  cells_many : (i n : ℕ) → cells_from text i n ≡ many_from (λ (j : ℕ). cell (text j)) i n
  cells_many i zero = refl
  cells_many i (suc n) = ap (λ (l : List ℕ). cell (text i) ++ l) (cells_many (i + 1) n)

  pub cells_more : (n : ℕ) → cells_from text 0 (n + 1) ≡ cells_from text 0 n ++ cell (text n)
  cells_more n = cells_many 0 (n + 1) ∙ many_more (λ (j : ℕ). cell (text j)) n ∙ ap (λ (l : List ℕ). l ++ cell (text n)) (sym (cells_many 0 n))

  pub cells_short : (size : ℕ) → ((i : ℕ) → length (cell (text i)) ≤ size) → (n : ℕ) → length (cells_from text 0 n) ≤ size * n
  cells_short size short n = rw (cells_many 0 n) (many_short (λ (j : ℕ). cell (text j)) size short 0 n)

cells_same : (f g : ℕ → List ℕ) → ((i : ℕ) → f i ≡ g i) → (i n : ℕ) → cells_from f i n ≡ cells_from g i n
cells_same f g same i zero = refl
cells_same f g same i (suc n) = rw (same i, cells_same f g same (i + 1) n)

-- ROWS
regroup : (comma number rain loss excess shares end : List ℕ) → number ++ comma ++ rain ++ comma ++ loss ++ comma ++ excess ++ shares ++ end
    ≡ number ++ (comma ++ rain ++ (comma ++ loss) ++ (comma ++ excess)) ++ shares ++ end
regroup comma number rain loss excess shares end = simp append_assoc

module _ (m : Measure) (s : Sheet) where
  rows_many : (i n : ℕ) → rows_from m s i n ≡ many_from (row_at m s) i n
  rows_many i zero = refl
  rows_many i (suc n) = ap (λ (l : List ℕ). row_at m s i ++ l) (rows_many (i + 1) n)

  pub rows_more : (n : ℕ) → rows_from m s 0 (n + 1) ≡ rows_from m s 0 n ++ row_at m s n
  rows_more n = rows_many 0 (n + 1) ∙ many_more (row_at m s) n ∙ ap (λ (l : List ℕ). l ++ row_at m s n) (sym (rows_many 0 n))

  pub rows_short : (size : ℕ) → ((k : ℕ) → length (row_at m s k) ≤ size) → (n : ℕ) → length (rows_from m s 0 n) ≤ size * n
  rows_short size short n = rw (rows_many 0 n) (many_short (row_at m s) size short 0 n)

  -- without excess there is none
  pub row_none : (k : ℕ) → get_or s.excesses k 0 ≡ 0 → row_at m s k ≡ []
  unfolding when◌then◌else◌
  row_none k none = rw (le-ltb 0 (get_or s.excesses k 0) (omega arith))

  pub row_some : (k : ℕ) → 0 < get_or s.excesses k 0 → row_at m s k ≡ row_line m s k
  unfolding when◌then◌else◌
  row_some k some = rw (lt-ltb 0 (get_or s.excesses k 0) some)

  pub row_cells : (k : ℕ) → row_line m s k
      ≡ whole (k + 1)
      ++ depths_text m (get_or s.rains k 0) (get_or s.losses k 0) (get_or s.excesses k 0)
      ++ cells_from (share_by m s.units (get_or s.excesses k 0) k) 0 s.intervals
      ++ (lf ∷ [])
  unfolding row_line
  row_cells k =
      rw (cells_same (share_text m s k) (share_by m s.units (get_or s.excesses k 0) k) (share-text m s k) 0 s.intervals)
      (regroup (bytes ",") (whole (k + 1)) (depth_text m (get_or s.rains k 0)) (depth_text m (get_or s.losses k 0)) (depth_text m (get_or s.excesses k 0)) _ (lf ∷ []))

  -- as it was written, from the figures that these are
  pub row_here : (k : ℕ) {number rain loss excess spread place at behind : ℕ} {out next : List ℕ}
      → Written out at (whole number ++ depths_text m rain loss excess ++ cells_from (share_by m s.units spread place) 0 s.intervals ++ (lf ∷ [])) next behind
      → number ≡ k + 1 → rain ≡ get_or s.rains k 0 → loss ≡ get_or s.losses k 0 → excess ≡ get_or s.excesses k 0
      → spread ≡ get_or s.excesses k 0 → place ≡ k → Written out at (row_line m s k) next behind
  row_here k w number_is rain-is loss_is excess-is spread-is place_is =
      rw (row_cells k) (rw (number_is, rain-is, loss_is, excess-is, spread-is, place_is) at w)
