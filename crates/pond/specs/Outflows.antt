-- The outflow at any W, of rows that keep the rules.
--     outflow_under   2M times the outflow is at most W: so W never falls below 0
--     outflow_last    it is never above the last row's Q (last_q), which it counts as above the last row (above_last)
--     outflow_rises   it never falls while W rises
--     last_most       no row's W is above the last one's
--     bracket         on or between the W of any row and the next one it is interpolated there, wherever the search began
--     at_row          at a row's W it is that row's Q, from whichever side W came: between-low and between_high say it of the spans above and below
use Rattle.std.specs.Prelude.{ℕ, zero, suc, ◌-◌, ◌*◌, ◌≤◌, ◌<◌, ◌≡◌, refl, false, List, [], ◌∷◌, length}
use Rattle.std.proofs.Common.{zero-le, sym, ◌∙◌, ⊎_elim, le_refl, le_trans, le_of_lt, lt_of_le_of_lt, mul-zero, arith, le-leb}
use Rattle.std.proofs.lemmas.Bool.{lt-leb}
use Rattle.sequences.specs.Choices.{taken, passed, below_or_not}
use Rattle.meaning.specs.Pool.{PoolRow, w_of, rules_break, between, outflow_from, outflow_at, last_w}
use Rattle.pond.specs.Tables.{Kept, kept_next, kept-rest, rules_kept, row_in}
use Rattle.pond.specs.Interpolation.{between-low, between_high, between_least, between_most, between_rises, between_under}

module _ (m : ℕ) where
  -- Up to the next row's W the outflow is interpolated; above it the next row is the one to go on from.
  within : (row next : PoolRow) (rows : List PoolRow) (w : ℕ) → w ≤ w_of m next → outflow_from m row (next ∷ rows) w ≡ between m row next w
  within row next rows w h = sym (taken _ (le-leb _ _ h) refl)

  above : (row next : PoolRow) (rows : List PoolRow) (w : ℕ) → w_of m next < w → outflow_from m row (next ∷ rows) w ≡ outflow_from m next rows w
  above row next rows w h = sym (passed _ (lt-leb _ _ h) refl)

  -- It may be gone on from at its own W too.
  at_first : (row : PoolRow) (rows : List PoolRow) → Kept m row rows → outflow_from m row rows (w_of m row) ≡ row.q
  at_first row [] k = refl
  at_first row (next ∷ rows) k = within row next rows (w_of m row) (le_of_lt (kept_next m row next rows k).rises) ∙ between-low m row next

  onward : (row next : PoolRow) (rows : List PoolRow) → Kept m row (next ∷ rows) → (w : ℕ) → w_of m next ≤ w → outflow_from m row (next ∷ rows) w ≡ outflow_from m next rows w
  onward row next rows k w h =
      ⊎_elim
      (λ over. above row next rows w over)
      (λ up.
      let same : w ≡ w_of m next = omega arith in
      rw same
      (within row next rows (w_of m next) (le_refl (w_of m next)) ∙ between_high m row next (kept_next m row next rows k)
      ∙ sym (at_first next rows (kept-rest m row next rows k))))
      (below_or_not (w_of m next) w)

  -- Of rows from one on, that one's W and Q are the least.
  later : (row : PoolRow) (rows : List PoolRow) → Kept m row rows → (j : ℕ) → j < length (row ∷ rows)
      → (w_of m row ≤ w_of m (row_in (row ∷ rows) j)) × (row.q ≤ (row_in (row ∷ rows) j).q)
  later row rows k zero h = (le_refl _, le_refl _)
  later row [] k (suc j) h = absurd (omega arith)
  later row (next ∷ rows) k (suc j) h =
      let f = kept_next m row next rows k in
      let on = later next rows (kept-rest m row next rows k) j (omega arith) in
      (le_trans (le_of_lt f.rises) on.0, le_trans f.grows on.1)

  topmost : (row : PoolRow) (rows : List PoolRow) → Kept m row rows → (j : ℕ) → j < length (row ∷ rows)
      → w_of m (row_in (row ∷ rows) j) ≤ w_of m (row_in (row ∷ rows) (length rows))
  topmost row rows k zero h = (later row rows k (length rows) (omega arith)).0
  topmost row [] k (suc j) h = absurd (omega arith)
  topmost row (next ∷ rows) k (suc j) h = topmost next rows (kept-rest m row next rows k) j (omega arith)

  least : (row : PoolRow) (rows : List PoolRow) → Kept m row rows → (w : ℕ) → row.q ≤ outflow_from m row rows w
  least row [] k w = le_refl _
  least row (next ∷ rows) k w =
      ⊎_elim
      (λ h. rw (above row next rows w h) (le_trans (kept_next m row next rows k).grows (least next rows (kept-rest m row next rows k) w)))
      (λ h. rw (within row next rows w h) (between_least m row next w))
      (below_or_not (w_of m next) w)

  most : (row : PoolRow) (rows : List PoolRow) → Kept m row rows → (w : ℕ) → outflow_from m row rows w ≤ (row_in (row ∷ rows) (length rows)).q
  most row [] k w = le_refl _
  most row (next ∷ rows) k w =
      let rest = kept-rest m row next rows k in
      ⊎_elim
      (λ h. rw (above row next rows w h) (most next rows rest w))
      (λ h.
      rw (within row next rows w h)
      (le_trans (between_most m row next (kept_next m row next rows k) w h) (later next rows rest (length rows) (omega arith)).1))
      (below_or_not (w_of m next) w)

  under : (row : PoolRow) (rows : List PoolRow) → Kept m row rows → (w : ℕ) → w_of m row ≤ w → 2 * m * outflow_from m row rows w ≤ w
  under row [] k w a = le_trans k.held a
  under row (next ∷ rows) k w a =
      let f = kept_next m row next rows k in
      ⊎_elim
      (λ h. rw (above row next rows w h) (under next rows (kept-rest m row next rows k) w (le_of_lt h)))
      (λ h. rw (within row next rows w h) (between_under m row next f (2 * m) w k.held f.holds a h))
      (below_or_not (w_of m next) w)

  rising : (row : PoolRow) (rows : List PoolRow) → Kept m row rows → (w w' : ℕ) → w ≤ w' → outflow_from m row rows w ≤ outflow_from m row rows w'
  rising row [] k w w' h = le_refl _
  rising row (next ∷ rows) k w w' h =
      let rest = kept-rest m row next rows k in
      ⊎_elim
      (λ a. rw (above row next rows w a, above row next rows w' (omega arith)) (rising next rows rest w w' h))
      (λ a.
      ⊎_elim
      (λ b.
      rw (within row next rows w a, above row next rows w' b)
      (le_trans (between_most m row next (kept_next m row next rows k) w a) (least next rows rest w')))
      (λ b. rw (within row next rows w a, within row next rows w' b) (between_rises m row next w w' h))
      (below_or_not (w_of m next) w'))
      (below_or_not (w_of m next) w)

  on : (row : PoolRow) (rows : List PoolRow) → Kept m row rows → (j : ℕ) → j < length (row ∷ rows)
      → outflow_from m row rows (w_of m (row_in (row ∷ rows) j)) ≡ (row_in (row ∷ rows) j).q
  on row rows k zero h = at_first row rows k
  on row [] k (suc j) h = absurd (omega arith)
  on row (next ∷ rows) k (suc j) h =
      let rest = kept-rest m row next rows k in
      onward row next rows k (w_of m (row_in (next ∷ rows) j)) (later next rows rest j (omega arith)).0 ∙ on next rows rest j (omega arith)

  spanned : (row : PoolRow) (rows : List PoolRow) → Kept m row rows → (j w : ℕ) → suc j < length (row ∷ rows)
      → w_of m (row_in (row ∷ rows) j) ≤ w → w ≤ w_of m (row_in (row ∷ rows) (suc j))
      → outflow_from m row rows w ≡ between m (row_in (row ∷ rows) j) (row_in (row ∷ rows) (suc j)) w
  spanned row [] k j w h a b = absurd (omega arith)
  spanned row (next ∷ rows) k zero w h a b = within row next rows w b
  spanned row (next ∷ rows) k (suc j) w h a b =
      let rest = kept-rest m row next rows k in
      onward row next rows k w (le_trans (later next rows rest j (omega arith)).0 a) ∙ spanned next rows rest j w (omega arith) a b

  past : (row : PoolRow) (rows : List PoolRow) → Kept m row rows → (w : ℕ) → w_of m (row_in (row ∷ rows) (length rows)) < w
      → outflow_from m row rows w ≡ (row_in (row ∷ rows) (length rows)).q
  past row [] k w h = refl
  past row (next ∷ rows) k w h =
      let rest = kept-rest m row next rows k in
      above row next rows w (lt_of_le_of_lt (later next rows rest (length rows) (omega arith)).0 h) ∙ past next rows rest w h

abbrev pub last_q : List PoolRow → ℕ
last_q rows = (row_in rows (length rows - 1)).q

-- The last place.
last_is : (n : ℕ) → suc n - 1 ≡ n
last_is n = omega arith

pub outflow_under : (m : ℕ) (rows : List PoolRow) → rules_break m rows ≡ false → (w : ℕ) → 2 * m * outflow_at m rows w ≤ w
outflow_under m [] e w = rw (mul-zero (2 * m)) zero-le
outflow_under m (row ∷ rows) e w = let r = rules_kept m row rows e in under m row rows r.1 w (rw r.0 zero-le)

pub outflow_last : (m : ℕ) (rows : List PoolRow) → rules_break m rows ≡ false → (w : ℕ) → outflow_at m rows w ≤ last_q rows
outflow_last m [] e w = zero-le
outflow_last m (row ∷ rows) e w = rw (last_is (length rows), last_q) (most m row rows (rules_kept m row rows e).1 w)

pub outflow_rises : (m : ℕ) (rows : List PoolRow) → rules_break m rows ≡ false → (w w' : ℕ) → w ≤ w' → outflow_at m rows w ≤ outflow_at m rows w'
outflow_rises m [] e w w' h = zero-le
outflow_rises m (row ∷ rows) e w w' h = rising m row rows (rules_kept m row rows e).1 w w' h

pub at_row : (m : ℕ) (rows : List PoolRow) → rules_break m rows ≡ false → (j : ℕ) → j < length rows → outflow_at m rows (w_of m (row_in rows j)) ≡ (row_in rows j).q
at_row m [] e j h = absurd (omega arith)
at_row m (row ∷ rows) e j h = on m row rows (rules_kept m row rows e).1 j h

pub last_most : (m : ℕ) (rows : List PoolRow) → rules_break m rows ≡ false → (j : ℕ) → j < length rows → w_of m (row_in rows j) ≤ last_w m rows
last_most m [] e j h = absurd (omega arith)
last_most m (row ∷ rows) e j h = rw (last_is (length rows)) (topmost m row rows (rules_kept m row rows e).1 j h)

pub bracket : (m : ℕ) (rows : List PoolRow) → rules_break m rows ≡ false → (j w : ℕ) → suc j < length rows
    → w_of m (row_in rows j) ≤ w → w ≤ w_of m (row_in rows (suc j)) → outflow_at m rows w ≡ between m (row_in rows j) (row_in rows (suc j)) w
bracket m [] e j w h a b = absurd (omega arith)
bracket m (row ∷ rows) e j w h a b = spanned m row rows (rules_kept m row rows e).1 j w h a b

pub above_last : (m : ℕ) (rows : List PoolRow) → rules_break m rows ≡ false → (w : ℕ) → last_w m rows < w → outflow_at m rows w ≡ last_q rows
above_last m [] e w h = refl
above_last m (row ∷ rows) e w h =
    rw (last_is (length rows), last_q) (past m row rows (rules_kept m row rows e).1 w (rw (last_is (length rows)) at h))
