-- The line at a place is the first of the deck's lines from there on: what the loop over a deck's lines goes by.
--     fair-line      a fair one passes refusal 3, and the lines go on at `next`
--     unfair-line    any other meets it; unfair_by_three: and by that it is refused; unfair_end: and where its plain bytes stop is told
use Prim.Native.Nat.{ℕ, suc, ◌+◌, ◌-◌, ◌≤◌, ◌<◌}
use Rattle.std.specs.Prelude.{◌≡◌, Bool, ◌&&◌, List, [], ◌∷◌, ◌++◌, take, drop, Result, Ok, Err}
use Rattle.std.proofs.Math.Path.{refl, ap}
use Rattle.std.proofs.Common.{◌∙◌, append-nil, ⊎_elim, drop_of_length-le, drop-drop, length-take-le}
use Rattle.std.proofs.Math.Bool.{true, false, or-true}
use Rattle.std.proofs.Math.Numerals.{add-one}
use native.Mathlib.Omega.{arith}
use borrow.Author.Tests.{eqb-true, lt-ltb, le-ltb, ltb-true, ltb-false, leb-true, leb-false}
use Rattle.std.proofs.Math.ListN.{length, get_or, length-drop, length-append, get_or-eq_default}
use Rattle.std.proofs.Math.Seq.{drop-cons, get_or-drop}
use Rattle.meaning.specs.Words.{◌=?◌, ◌≤?◌, ◌<?◌, when◌then◌else◌}
use Rattle.meaning.specs.Lines.{lf, cr, in_front, lines_of, foreign}
use Rattle.sequences.specs.Choices.{below_or_not, both_hold}
use Rattle.sequences.specs.Parts.{part}
use Rattle.sequences.specs.Runs.{run, run_within, run_at_within, run_at_stops, every-run, not_every}
use Rattle.refusals.specs.declared.Refusal.{Refusal}
use Rattle.refusals.specs.declared.Refusal.TheVariants.{ForeignLine}
use Rattle.lines.specs.declared.Line.{Line}
use Rattle.lines.specs.declared.Foreign.{Foreign}
use Rattle.lines.specs.Line.{is_plain, fair_line, unfair_line, line_ending, line_from, line_at, or_refusal}
use Rattle.lines.specs.Plain.{plain-every, front, front-line, front_none, lines-run}

-- A line that passes refusal 3 stands from `at` to `end`, and the next one starts at `next`.
pub record FairAt (s : List ℕ) (at end next : ℕ) : Type 0 where
  pub begins : at ≤ end
  pub ends : end ≤ length s
  pub short : end ≤ at + 80
  pub goes_on : at < next
  pub within : next ≤ length s
  pub lines : lines_of (drop at s) ≡ part at (end - at) s ∷ lines_of (drop next s)
  pub sound : foreign (part at (end - at) s) ≡ false

-- The line that starts at `at` meets refusal 3.
pub record ForeignAt (s : List ℕ) (at : ℕ) : Type 0 where
  pub line : List ℕ
  pub rest : List (List ℕ)
  pub lines : lines_of (drop at s) ≡ line ∷ rest
  pub met : foreign line ≡ true

-- some line begins with these bytes
record Begun (xs : List ℕ) (ls : List (List ℕ)) : Type 0 where
  more : List ℕ
  rest : List (List ℕ)
  lines : ls ≡ (xs ++ more) ∷ rest

begun : (xs : List ℕ) (ls : List (List ℕ)) → 0 < length xs → Begun xs (front xs ls)
begun xs [] h = record { more = []; rest = []; lines = rw append-nil (front_none xs h) }
begun xs (l ∷ ls) h = record { more = l; rest = ls; lines = front-line xs l ls }

-- the lines from a byte on, where a line ends and where not
module _ (s : List ℕ) (i : ℕ) (more : i < length s) where
  lines_at_lf : get_or s i 0 ≡ lf → lines_of (drop i s) ≡ [] ∷ lines_of (drop (i + 1) s)
  unfolding lines_of when◌then◌else◌
  lines_at_lf h = rw (add-one, drop-cons s i 0 more, h)

  lines_at_cr-lf : i + 1 < length s → get_or s i 0 ≡ cr → get_or s (i + 1) 0 ≡ lf → lines_of (drop i s) ≡ [] ∷ lines_of (drop (i + 2) s)
  unfolding lines_of when◌then◌else◌
  lines_at_cr-lf still h k =
      let e : i + 2 ≡ suc (suc i) = omega arith in
      rw (drop-cons s i 0 more, h, drop-cons s (suc i) 0 (omega arith), rw add-one at k, e)

  lines_at_other : (get_or s i 0 =? lf) ≡ false → ((get_or s i 0 =? cr) && (get_or s (i + 1) 0 =? lf)) ≡ false
      → lines_of (drop i s) ≡ in_front (get_or s i 0) (lines_of (drop (i + 1) s))
  unfolding lines_of when◌then◌else◌
  lines_at_other h k =
      let e : get_or (drop (suc i) s) 0 0 ≡ get_or s (i + 1) 0 = get_or-drop (suc i) s 0 0 ∙ ap (λ (j : ℕ). get_or s j 0) (omega arith) in
      rw (drop-cons s i 0 more, h, e, k, add-one)

-- a byte that is not 0 stands before the end
stands_before : (s : List ℕ) (i : ℕ) → get_or s i 0 ≡ lf → i < length s
stands_before s i h =
    ⊎_elim (λ k. k) (λ k. let e : get_or s i 0 ≡ 0 = get_or-eq_default s 0 k in absurd (omega arith)) (below_or_not i (length s))

module _ (s : List ℕ) (at : ℕ) (inside : at < length s) where
  abbrev end : ℕ
  end = at + run is_plain (drop at s)

  abbrev plains : List ℕ
  plains = take (run is_plain (drop at s)) (drop at s)

  plains-length : length plains ≡ end - at
  plains-length = length-take-le (run is_plain (drop at s)) (drop at s) (run_within is_plain (drop at s)) ∙ omega arith

  lines_from : lines_of (drop at s) ≡ front plains (lines_of (drop end s))
  lines_from = lines-run (drop at s) ∙ ap (λ (v : List ℕ). front plains (lines_of v)) (drop-drop (run is_plain (drop at s)) at s)

  module _ (short : end - at ≤ 80) where
    sound-plains : foreign (part at (end - at) s) ≡ false
    unfolding foreign
    sound-plains =
        let e : end - at ≡ run is_plain (drop at s) = omega arith in
        let f : length plains ≤ 80 = omega (arith, plains-length) in
        rw (e, le-ltb 80 (length plains) f, plain-every, every-run is_plain (drop at s))

    -- the line's end takes no byte of it
    fair_before : (next : ℕ) → at < next → next ≤ length s → lines_of (drop end s) ≡ [] ∷ lines_of (drop next s) → FairAt s at end next
    fair_before next forth within h =
        record {
          begins = omega arith;
          ends = run_at_within is_plain s at (omega arith);
          short = omega arith;
          goes_on = forth;
          within = within;
          lines =
              let e : end - at ≡ run is_plain (drop at s) = omega arith in
              lines_from ∙ rw (h, e) (front-line plains [] (lines_of (drop next s)) ∙ rw append-nil);
          sound = sound-plains;
        }

    fair_end : length s ≤ end → FairAt s at end end
    unfolding lines_of
    fair_end h =
        let r : run is_plain (drop at s) ≤ length (drop at s) = run_within is_plain (drop at s) in
        let e : end ≡ length s = omega (arith, length-drop at s) in
        let n : end - at ≡ run is_plain (drop at s) = omega arith in
        record {
          begins = omega arith;
          ends = omega arith;
          short = omega arith;
          goes_on = omega arith;
          within = omega arith;
          lines = lines_from ∙ rw (drop_of_length-le s h, n) (front_none plains (omega (arith, plains-length)));
          sound = sound-plains;
        }

    fair_lf : end < length s → get_or s end 0 ≡ lf → FairAt s at end (end + 1)
    fair_lf more h = fair_before (end + 1) (omega arith) (omega arith) (lines_at_lf s end more h)

    fair_cr-lf : end < length s → get_or s end 0 ≡ cr → get_or s (end + 1) 0 ≡ lf → FairAt s at end (end + 2)
    fair_cr-lf more h k =
        let still : end + 1 < length s = stands_before s (end + 1) k in
        fair_before (end + 2) (omega arith) (omega arith) (lines_at_cr-lf s end more still h k)

  foreign_byte : end < length s → (get_or s end 0 =? lf) ≡ false → ((get_or s end 0 =? cr) && (get_or s (end + 1) 0 =? lf)) ≡ false → ForeignAt s at
  unfolding foreign
  foreign_byte more h k =
      let b = begun (get_or s end 0 ∷ []) (lines_of (drop (end + 1) s)) (omega arith) in
      record {
        line = plains ++ (get_or s end 0 ∷ b.more);
        rest = b.rest;
        lines = lines_from ∙ ap (front plains) (lines_at_other s end more h k ∙ b.lines) ∙ front-line plains _ _;
        met = rw (plain-every, not_every is_plain plains (get_or s end 0) b.more (run_at_stops is_plain s at more))
            (or-true (80 <? length (plains ++ (get_or s end 0 ∷ b.more))));
      }

  foreign_long : 80 < end - at → ForeignAt s at
  unfolding foreign
  foreign_long h =
      let b = begun plains (lines_of (drop end s)) (omega (arith, plains-length)) in
      record {
        line = plains ++ b.more;
        rest = b.rest;
        lines = lines_from ∙ b.lines;
        met =
            let l : 80 < length (plains ++ b.more) = omega (arith, length-append plains b.more, plains-length) in
            rw (lt-ltb 80 (length (plains ++ b.more)) l);
      }

  abbrev Told : Result Line Foreign → Type 0
  Told (Ok line) = FairAt s at line.end line.next
  Told (Err foreign) = (foreign.end ≡ end) × ForeignAt s at

  told : Told (line_at s at)
  unfolding line_from line_ending when◌then◌else◌
  told = go (80 <? (end - at)) refl (length s ≤? end) refl (get_or s end 0 =? lf) refl ((get_or s end 0 =? cr) && (get_or s (end + 1) 0 =? lf)) refl
    where
      go : (a : Bool) → (80 <? (end - at)) ≡ a → (b : Bool) → (length s ≤? end) ≡ b → (c : Bool) → (get_or s end 0 =? lf) ≡ c
          → (d : Bool) → ((get_or s end 0 =? cr) && (get_or s (end + 1) 0 =? lf)) ≡ d
          → Told (when a then unfair_line end else when b then fair_line end end else when c then fair_line end (end + 1) else when d then fair_line end (end + 2) else unfair_line end)
      go true p b q c r d t = (refl, foreign_long (ltb-true _ _ p))
      go false p true q c r d t = fair_end (ltb-false _ _ p) (leb-true _ _ q)
      go false p false q true r d t = fair_lf (ltb-false _ _ p) (leb-false _ _ q) (eqb-true _ _ r)
      go false p false q false r true t =
          let both = both_hold _ _ t in
          fair_cr-lf (ltb-false _ _ p) (leb-false _ _ q) (eqb-true _ _ both.0) (eqb-true _ _ both.1)
      go false p false q false r false t = (refl, foreign_byte (leb-false _ _ q) r t)

module _ (s : List ℕ) (at : ℕ) (r : Result Line Foreign) (inside : at < length s) (found : r ≡ line_at s at) where
  pub fair-line : (line : Line) → r ≡ Ok line → FairAt s at line.end line.next
  fair-line line h = rw h at (rw (← found) at (told s at inside))

  -- any other, which is foreign
  refused : (foreign : Foreign) → r ≡ Err foreign → (foreign.end ≡ at + run is_plain (drop at s)) × ForeignAt s at
  refused foreign h = rw h at (rw (← found) at (told s at inside))

  pub unfair_by_three : (refusal : Refusal) → or_refusal r ≡ Err refusal → refusal ≡ ForeignLine
  unfair_by_three refusal h = by r h
    where
      by : (x : Result Line Foreign) → or_refusal x ≡ Err refusal → refusal ≡ ForeignLine
      by (Ok line) told = cc
      by (Err foreign) told = cc

  pub unfair_end : (foreign : Foreign) → r ≡ Err foreign → foreign.end ≡ at + run is_plain (drop at s)
  unfair_end foreign h = (refused foreign h).0

  pub unfair-line : (foreign : Foreign) → r ≡ Err foreign → ForeignAt s at
  unfair-line foreign h = (refused foreign h).1
