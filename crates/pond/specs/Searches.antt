-- The search for the span on which W lies, in the list of the rows' W.
--     Topped             ahead of a row there is a place that no W is above
--     Passed, Climbed    W is above all rows from one up to another, and not above the next: passed_none, passed_more, passed_under
--     Left, Sunk         W is below all rows from one down to another, but not below that: left_none, left_more, left_behind
--     Sought             the lists of a table and a span of it; Searchable: of some table
--     row-sought         a row's words stand in the lists; first_low, row-topped: what the searches ask
--     sink-found, climb-found, stay_found   where the searches end, or without one, W lies on the span there, or above the last one
use Rattle.std.specs.Prelude.{ℕ, zero, suc, ◌+◌, ◌-◌, ◌≤◌, ◌<◌, min, ◌≡◌, List, length, get_or}
use Rattle.std.proofs.Common.{sym, ◌∙◌, ⊎_elim, arith}
use Rattle.sequences.specs.Choices.{below_or_not}
use Rattle.pond.specs.declared.Span.{Span}
use Rattle.pond.specs.Tables.{PondTable, first_w}
use Rattle.pond.specs.Spans.{SpanAt, Reached, Found}
use Rattle.pond.specs.Levels.{no_w, WsOf, RisesOf, span_in, Listed, row_listed, span_listed}

pub record Topped (ws : List ℕ) (row : ℕ) : Type 0 where
  pub top : ℕ
  pub ahead : row < top
  pub inside : top < length ws
  pub most : get_or ws top 0 ≡ no_w

pub record Passed (ws : List ℕ) (row w k : ℕ) : Type 0 where
  pub up : row ≤ k
  pub above : (j : ℕ) → row < j → j ≤ k → get_or ws j 0 < w

pub record Climbed (ws : List ℕ) (row w k : ℕ) : Type 0 where
  pub passed : Passed ws row w k
  pub next : w ≤ get_or ws (k + 1) 0

pub record Left (ws : List ℕ) (row w k : ℕ) : Type 0 where
  pub down : k ≤ row
  pub below : (j : ℕ) → k < j → j ≤ row → w < get_or ws j 0

pub record Sunk (ws : List ℕ) (row w k : ℕ) : Type 0 where
  pub left : Left ws row w k
  pub here : get_or ws k 0 ≤ w

module _ (ws : List ℕ) (row w k : ℕ) where
  pub passed_none : k ≡ row → Passed ws row w k
  passed_none e = record { up = omega arith; above = λ (j : ℕ) h g. absurd (omega arith) }

  pub passed_more : Passed ws row w k → get_or ws (k + 1) 0 < w → Passed ws row w (k + 1)
  passed_more p more =
      record {
        up = omega (arith, p.up);
        above = λ (j : ℕ) h g. ⊎_elim (λ (before : j < k + 1). p.above j h (omega arith)) (λ (from : k + 1 ≤ j). (let last : j ≡ k + 1 = omega arith in rw last more)) (below_or_not j (k + 1));
      }

  -- the search ends ahead of the top
  pub passed_under : (t : Topped ws row) → w ≤ no_w → Passed ws row w k → k < t.top
  passed_under t up p = ⊎_elim (λ h. h) (λ (from : t.top ≤ k). absurd (omega (arith, p.above t.top t.ahead from, t.most))) (below_or_not k t.top)

  pub left_none : k ≡ row → Left ws row w k
  left_none e = record { down = omega arith; below = λ (j : ℕ) h g. absurd (omega arith) }

  pub left_more : Left ws row w k → w < get_or ws k 0 → 0 < k → Left ws row w (k - 1)
  left_more p more some =
      record {
        down = omega (arith, p.down);
        below = λ (j : ℕ) h g. ⊎_elim (λ (behind : k < j). p.below j behind g) (λ (to : j ≤ k). (let last : j ≡ k = omega arith in rw last more)) (below_or_not k j);
      }

-- W is not below the first row, if that stands at 0
pub left_behind : (ws : List ℕ) (w k : ℕ) → w < get_or ws k 0 → get_or ws 0 0 ≡ 0 → 0 < k
left_behind ws w zero h none = absurd (omega arith)
left_behind ws w (suc k) h none = omega arith

pub record Sought (m : ℕ) (svs sqs ws rises : List ℕ) (s : Span) : Type 0 where
  pub table : PondTable m svs sqs
  pub levels : WsOf m svs sqs ws
  pub steps : RisesOf m svs sqs rises
  pub span : SpanAt m svs sqs s

pub record Searchable (svs sqs ws rises : List ℕ) (s : Span) : Type 0 where
  pub m : ℕ
  pub sought : Sought m svs sqs ws rises s

module _ (m : ℕ) (svs sqs ws rises : List ℕ) (s : Span) (x : Sought m svs sqs ws rises s) where
  -- the first row stands at 0, the span's row at its low W, and ahead of it is the top
  pub first_low : get_or ws 0 0 ≡ 0
  first_low = let inside = x.span.inside in x.levels.at 0 (omega arith) ∙ first_w m svs sqs x.table

  row_low : get_or ws s.row 0 ≡ s.low
  row_low = let inside = x.span.inside in x.levels.at s.row (omega arith) ∙ sym x.span.span.low

  abbrev pub row-topped : Topped ws s.row
  row-topped = record { top = length svs; ahead = omega (arith, x.span.inside); inside = omega (arith, x.table.few, x.levels.long); most = x.levels.behind }

  -- a row from the lists, and its span where W lies
  pub row-sought : (row : ℕ) → row + 1 < length svs → Listed sqs ws rises row
  row-sought row h = row_listed m svs sqs x.table ws rises x.levels x.steps row h

  span_found : (row w : ℕ) → Reached m svs sqs row w → Found m svs sqs (span_in sqs ws rises row) w
  span_found row w r = record { at = span_listed m svs sqs x.table ws rises x.levels x.steps row r.inside; reached = r }

  module _ (w k : ℕ) where
    pub sink_inside : Sunk ws s.row w k → k + 1 < length svs
    sink_inside p = omega (arith, x.span.inside, p.left.down)

    pub sink-found : Sunk ws s.row w k → w < s.low → Found m svs sqs (span_in sqs ws rises k) w
    sink-found p out =
        let inside = sink_inside p in
        let here : get_or ws k 0 ≤ w = p.here in
        let low : k < s.row =
        ⊎_elim (λ h. h) (λ h. (let same : k ≡ s.row = omega (arith, p.left.down) in absurd (omega (arith, rw same at here, row_low)))) (below_or_not k s.row) in
        span_found k w
        (record {
          inside = inside;
          above = rw (← x.levels.at k (omega arith)) here;
          last = λ h. absurd (omega (arith, h, p.left.below (k + 1) (omega arith) (omega arith), x.levels.at (k + 1) inside));
        })

    module _ (row : ℕ) (e : row ≡ min k (length svs - 2)) where
      pub climb_inside : row + 1 < length svs
      climb_inside = omega (arith, e, x.span.inside)

      pub climb-found : Climbed ws s.row w k → s.low ≤ w → w ≤ no_w → Found m svs sqs (span_in sqs ws rises row) w
      climb-found p from up =
          let inside = climb_inside in
          let topped : Topped ws s.row =
          record { top = length svs; ahead = omega (arith, x.span.inside); inside = omega (arith, x.table.few, x.levels.long); most = x.levels.behind } in
          let under : k < length svs = passed_under ws s.row w k topped up p.passed in
          let start = p.passed.up in
          let first = x.span.inside in
          let above : get_or ws row 0 ≤ w =
          ⊎_elim
          (λ (h : s.row < row). (let over = p.passed.above row h (omega arith) in omega arith))
          (λ (h : row ≤ s.row). (let same : row ≡ s.row = omega arith in rw same (omega (arith, row_low))))
          (below_or_not s.row row) in
          span_found row w
          (record {
            inside = inside;
            above = rw (← x.levels.at row (omega arith)) above;
            last =
                λ h.
                ⊎_elim
                (λ (short : k + 1 < length svs). (
                let same : row ≡ k = omega arith in
                let next : w ≤ get_or ws (row + 1) 0 = rw same p.next in
                absurd (omega (arith, h, next, x.levels.at (row + 1) inside))))
                (λ (long : length svs ≤ k + 1). omega arith)
                (below_or_not (k + 1) (length svs));
          })

  -- where W has not left the span
  pub stay_found : (w : ℕ) → s.low ≤ w → w ≤ s.high → Found m svs sqs s w
  stay_found w low high =
      let p = x.span.span in
      record { at = x.span; reached = record { inside = x.span.inside; above = rw p.low at low; last = λ h. absurd (omega (arith, p.high)) } }
