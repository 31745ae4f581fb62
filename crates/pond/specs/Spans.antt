-- A span, a row and the next one, as the code holds it.
--     SpanOf         W and Q of the row, W of the next one, and by how much W and Q rise in hundredths; SpanAt: of the row at a place and the next one
--     Reached        the place where W lies: not below the row's W, and not above the next one's unless that is the last row. Found: the span there
--     outflow_in      the outflow on a span, or above it, and Graded, what the code asks to reckon it in 64 bits (found_graded)
--     graded_products, graded_on, graded_over   its products, and its outcome on the span and above it
--     found_outflow  on the span where W lies this is the outflow; found-over: and whether W is above it is whether it is above the last row
use Rattle.std.specs.Prelude.{ℕ, suc, ◌+◌, ◌-◌, ◌*◌, ◌/◌, ◌%◌, ◌≤◌, ◌<◌, ◌≡◌, refl, List, length}
use Rattle.std.proofs.Common.{sym, ap, ◌∙◌, ⊎_elim, le_trans, mul-le-mul, mod-lt, add-one, arith, lt-ltb, le-ltb}
use Rattle.std.proofs.Math.Nat.{div-le_of_le-mul}
use Rattle.sequences.specs.Choices.{taken, passed, below_or_not}
use Rattle.meaning.specs.Words.{◌<?◌, when◌then◌else◌}
use Rattle.meaning.specs.Water.{flow_limit}
use Rattle.meaning.specs.Pool.{PoolRow, rows_of, w_of, outflow_at, last_w}
use Rattle.pond.specs.declared.Span.{Span}
use Rattle.pond.specs.Tables.{PondTable, paired, ruled, row_in, row_at, row-at, count_rows, rows_follow}
use Rattle.pond.specs.Outflows.{bracket, above_last, last_most}
use Rattle.pond.specs.Limits.{row_limit}
use Rattle.pond.specs.Hundredths.{between-cut, divided_first}

pub record SpanOf (m : ℕ) (row next : PoolRow) (s : Span) : Type 0 where
  pub low : s.low ≡ w_of m row
  pub high : s.high ≡ w_of m next
  pub out : s.out ≡ row.q
  pub more : s.out + 600_000 * s.more ≡ next.q
  pub rise : s.low + 600_000 * s.rise ≡ s.high

pub record SpanAt (m : ℕ) (svs sqs : List ℕ) (s : Span) : Type 0 where
  pub inside : s.row + 1 < length svs
  pub span : SpanOf m (row_at svs sqs s.row) (row_at svs sqs (s.row + 1)) s

pub record Reached (m : ℕ) (svs sqs : List ℕ) (row w : ℕ) : Type 0 where
  pub inside : row + 1 < length svs
  pub above : w_of m (row_at svs sqs row) ≤ w
  pub last : w_of m (row_at svs sqs (row + 1)) < w → row + 2 ≡ length svs

pub record Found (m : ℕ) (svs sqs : List ℕ) (s : Span) (w : ℕ) : Type 0 where
  pub at : SpanAt m svs sqs s
  pub reached : Reached m svs sqs s.row w

abbrev pub outflow_in : Span → ℕ → ℕ
outflow_in s w = when s.high <? w then s.out + 600_000 * s.more else s.out + s.more * (w - s.low) / s.rise

pub record Graded (s : Span) (w : ℕ) : Type 0 where
  pub some : 0 < s.rise
  pub above : s.low ≤ w
  pub whole : s.low + 600_000 * s.rise ≡ s.high
  pub out_up : s.out ≤ flow_limit
  pub more_up : s.more ≤ 10_000_000
  pub rise_up : s.rise ≤ 28_919_998_548

module _ (s : Span) (w : ℕ) (g : Graded s w) where
  -- x is how far W is above the row, and `share` what is divided by `rise`
  pub graded_products : (x : ℕ) → x ≤ 600_000 * s.rise → (s.more * (x / s.rise) ≤ 6_000_000_000_000) × (s.more * (x % s.rise) ≤ 289_199_985_480_000_000)
  graded_products x h =
      let up : x ≤ s.rise * 600_000 = omega arith in
      let part : x % s.rise ≤ 28_919_998_548 = omega (arith, mod-lt x g.some, g.rise_up) in
      (omega (arith, mul-le-mul g.more_up (div-le_of_le-mul s.rise up)), omega (arith, mul-le-mul g.more_up part))

  pub graded_on : (x share part : ℕ) → w ≤ s.high → x ≡ w - s.low → share ≡ s.more * (x % s.rise) → part ≡ share / s.rise
      → s.out + s.more * (x / s.rise) + part ≡ outflow_in s w
  graded_on x share part h ex es ep =
      let way = divided_first s.more x s.rise g.some in
      passed _ (le-ltb s.high w h) (rw (← ex, ep, es) (omega arith))

  pub graded_over : s.high < w → s.out + 600_000 * s.more ≡ outflow_in s w
  graded_over h = taken _ (lt-ltb s.high w h) refl

module _ (m : ℕ) (svs sqs : List ℕ) (t : PondTable m svs sqs) (s : Span) (w : ℕ) (f : Found m svs sqs s w) where
  pub found_graded : Graded s w
  found_graded =
      let p = f.at.span in
      let up = (rows_follow m svs sqs t s.row f.at.inside).rises in
      record {
        some = omega arith;
        above = omega (arith, f.reached.above);
        whole = p.rise;
        out_up = omega (arith, p.out, t.outflows_up s.row);
        more_up = omega (arith, p.more, t.outflows_up (s.row + 1));
        rise_up = omega (arith, p.high, row_limit m svs sqs t (s.row + 1));
      }

  -- The row and the next one, among the rows.
  here : row_in (rows_of svs sqs) s.row ≡ row_at svs sqs s.row
  here = row-at svs sqs (paired m svs sqs t) s.row

  next : row_in (rows_of svs sqs) (suc s.row) ≡ row_at svs sqs (s.row + 1)
  next = rw (add-one s.row) (row-at svs sqs (paired m svs sqs t) (suc s.row))

  count : length (rows_of svs sqs) ≡ length svs
  count = count_rows svs sqs (paired m svs sqs t)

  inside : suc s.row < length (rows_of svs sqs)
  inside = omega (arith, count, f.at.inside)

  -- Above the span only where it is the last one.
  last-place : s.high < w → length (rows_of svs sqs) - 1 ≡ suc s.row
  last-place h = omega (arith, count, f.reached.last (rw f.at.span.high at h))

  last_high : s.high < w → last_w m (rows_of svs sqs) ≡ s.high
  last_high h = ap (λ (j : ℕ). w_of m (row_in (rows_of svs sqs) j)) (last-place h) ∙ ap (w_of m) next ∙ sym f.at.span.high

  pub found-over : (s.high <? w) ≡ (last_w m (rows_of svs sqs) <? w)
  found-over =
      let top : s.high ≤ last_w m (rows_of svs sqs) = rw (f.at.span.high, ← next) (last_most m (rows_of svs sqs) (ruled m svs sqs t) (suc s.row) inside) in
      ⊎_elim (λ h. rw (last_high h)) (λ h. rw (le-ltb s.high w h, le-ltb (last_w m (rows_of svs sqs)) w (le_trans h top))) (below_or_not s.high w)

  over_last : s.high < w → outflow_at m (rows_of svs sqs) w ≡ s.out + 600_000 * s.more
  over_last h =
      above_last m (rows_of svs sqs) (ruled m svs sqs t) w (rw (last_high h) h) ∙ ap (λ (j : ℕ). (row_in (rows_of svs sqs) j).q) (last-place h)
      ∙ ap (λ (row : PoolRow). row.q) next
      ∙ sym f.at.span.more

  on_span : w ≤ s.high → outflow_at m (rows_of svs sqs) w ≡ s.out + s.more * (w - s.low) / s.rise
  on_span h =
      let p = f.at.span in
      let low : w_of m (row_in (rows_of svs sqs) s.row) ≤ w = rw here f.reached.above in
      let high : w ≤ w_of m (row_in (rows_of svs sqs) (suc s.row)) = rw (next, ← p.high) h in
      let flows : (row_at svs sqs s.row).q + 600_000 * s.more ≡ (row_at svs sqs (s.row + 1)).q = rw p.out at p.more in
      let levels : w_of m (row_at svs sqs s.row) + 600_000 * s.rise ≡ w_of m (row_at svs sqs (s.row + 1)) = omega arith in
      bracket m (rows_of svs sqs) (ruled m svs sqs t) s.row w inside low high
      ∙ rw (here, next, p.out, p.low) (between-cut m (row_at svs sqs s.row) (row_at svs sqs (s.row + 1)) s.more s.rise w flows levels)

  pub found_outflow : outflow_in s w ≡ outflow_at m (rows_of svs sqs) w
  found_outflow =
      ⊎_elim
      (λ h. sym (taken _ (lt-ltb _ _ h) (over_last h)))
      (λ h. sym (passed _ (le-ltb _ _ h) (on_span h)))
      (below_or_not s.high w)
