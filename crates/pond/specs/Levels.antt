-- What is listed of a pond's rows before its ordinates are gone through.
--     rise_of, rise_at  by how much W rises from a row to the next one, in hundredths
--     no_w             the highest number of 64 bits, which no W is above
--     WsOf            W of every row, and behind the last row no_w: ws_listed, of what a loop over the rows leaves
--     RisesOf         by how much W rises from each row to the next one: rises_listed
--     span_in          the span from a row to the next one, from the lists; Listed: what the code asks of them (row_listed)
--     span_listed     it is the table's own
use Rattle.std.specs.Prelude.{ℕ, ◌+◌, ◌-◌, ◌*◌, ◌≤◌, ◌<◌, ◌≡◌, List, length, get_or, replicate}
use Rattle.std.proofs.Common.{◌∙◌, arith}
use Rattle.std.proofs.lemmas.List.{length-replicate, get_or-replicate}
use Rattle.sequences.specs.Rewriting.{Rewritten}
use Rattle.meaning.specs.Pool.{w_of}
use Rattle.pond.specs.declared.Span.{Span}
use Rattle.pond.specs.Tables.{PondTable, paired, row_at, rows_follow}
use Rattle.pond.specs.Hundredths.{w_rises}
use Rattle.pond.specs.Spans.{SpanAt}

abbrev pub rise_of : (m sv sq sv' sq' : ℕ) → ℕ
rise_of m sv sq sv' sq' = 1_452 * (sv' - sv) + m * (sq' - sq)

abbrev pub rise_at : (m : ℕ) (svs sqs : List ℕ) → ℕ → ℕ
rise_at m svs sqs k = rise_of m (get_or svs k 0) (get_or sqs k 0) (get_or svs (k + 1) 0) (get_or sqs (k + 1) 0)

abbrev pub no_w : ℕ
no_w = 18_446_744_073_709_551_615

pub record WsOf (m : ℕ) (svs sqs ws : List ℕ) : Type 0 where
  pub long : length ws ≡ 21
  pub at : (k : ℕ) → k < length svs → get_or ws k 0 ≡ w_of m (row_at svs sqs k)
  pub behind : get_or ws (length svs) 0 ≡ no_w

pub record RisesOf (m : ℕ) (svs sqs rises : List ℕ) : Type 0 where
  pub long : length rises ≡ 20
  pub at : (k : ℕ) → k + 1 < length svs → w_of m (row_at svs sqs k) + 600_000 * get_or rises k 0 ≡ w_of m (row_at svs sqs (k + 1))

abbrev pub span_in : (sqs ws rises : List ℕ) → ℕ → Span
span_in sqs ws rises row =
    record {
      row = row;
      low = get_or ws row 0;
      high = get_or ws (row + 1) 0;
      out = 600_000 * get_or sqs row 0;
      more = get_or sqs (row + 1) 0 - get_or sqs row 0;
      rise = get_or rises row 0;
    }

pub record Listed (sqs ws rises : List ℕ) (row : ℕ) : Type 0 where
  pub outflows : row + 1 < length sqs
  pub levels : row + 1 < length ws
  pub steps : row < length rises
  pub grows : get_or sqs row 0 ≤ get_or sqs (row + 1) 0
  pub up : get_or sqs (row + 1) 0 ≤ 10_000_000

module _ (m : ℕ) (svs sqs : List ℕ) (t : PondTable m svs sqs) where
  pub ws_listed : (blank ws : List ℕ) (i : ℕ) → blank ≡ replicate 21 no_w → i ≡ length svs → Rewritten (λ (k : ℕ). w_of m (row_at svs sqs k)) blank ws i → WsOf m svs sqs ws
  ws_listed blank ws i none all r =
      record {
        long = r.long ∙ rw none (length-replicate 21 no_w);
        at = λ (k : ℕ) h. r.done k (omega arith);
        behind = r.same (length svs) (omega arith) ∙ rw none (get_or-replicate 21 (length svs) no_w 0 (omega (arith, t.few)));
      }

  pub rises_listed : (blank rises : List ℕ) (i : ℕ) → blank ≡ replicate 20 0 → length svs ≤ i + 1 → Rewritten (rise_at m svs sqs) blank rises i → RisesOf m svs sqs rises
  rises_listed blank rises i none all r =
      record {
        long = r.long ∙ rw none (length-replicate {A = ℕ} 20 0);
        at =
            λ (k : ℕ) h.
            let f = rows_follow m svs sqs t k h in
            rw (r.done k (omega arith))
            (w_rises m (get_or svs k 0) (get_or sqs k 0) (get_or svs (k + 1) 0) (get_or sqs (k + 1) 0) (omega (arith, f.fills)) (omega (arith, f.grows)));
      }

  module _ (ws rises : List ℕ) (p : WsOf m svs sqs ws) (q : RisesOf m svs sqs rises) (row : ℕ) (h : row + 1 < length svs) where
    pub row_listed : Listed sqs ws rises row
    row_listed =
        record {
          outflows = omega (arith, paired m svs sqs t);
          levels = omega (arith, t.few, p.long);
          steps = omega (arith, t.few, q.long);
          grows = omega (arith, (rows_follow m svs sqs t row h).grows);
          up = t.outflows_up (row + 1);
        }

    pub span_listed : SpanAt m svs sqs (span_in sqs ws rises row)
    span_listed =
        record {
          inside = h;
          span =
              record {
                low = p.at row (omega arith);
                high = p.at (row + 1) h;
                out = omega arith;
                more = omega (arith, row_listed.grows);
                rise = rw (p.at row (omega arith), p.at (row + 1) h) (q.at row h);
              };
        }
