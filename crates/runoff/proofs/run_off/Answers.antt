-- `runoff::run_off` meets its contract: the sheet, interval after interval. The loop keeps that each ordinate has what the intervals before brought to it; when all are
-- through, the columns are the runoff (`sheet_order`).
use Prim.Native.Nat.{ℕ}
use mathlib.Core.Path.{◌≡◌, refl, subst}
use native.Mathlib.Omega.{arith}
use lib.ListN.{length, get_or-eq_default}
use Rattle.runoff.specs.Rows.{sheet_for, Rows, rows_room, rows_dry, rows_more, rows_all}
use Rattle.runoff.proofs.run_off.Goals as goal
use Rattle.runoff.proofs.run_off.Goals.{then-depth-gt0, else-depth-gt0}

pub spread-requires : goal.spread-requires
spread-requires c =
    let s = c in
    let l = c.loop-own in
    record {
      all_up_to = (s.requires.all_up_to.0, omega (arith, s.requires.all_up_to.1 l.own));
      by_index = rows_room _ _ s.requires.all_up_to.0 s.requires.all_up_to.1 l.own _ l.q (omega (arith, s.requires.excess_in_bounds.1)) l.invariant;
    }

pub loop-own-preserved : goal.loop-own-preserved
loop-own-preserved c =
    let l = c.loop-own in
    let sheet = sheet_for c.args.units.now c.args.excess.now (length c.args.excess.now) in
    let n = length c.args.q.now in
    elim c.if-depth-gt0.branch [
      | then-depth-gt0 w ↦ rw w.q-is (rows_more sheet n l.own _ _ l.q _ l.invariant w.spread.ensures (omega (arith, c.requires.excess_in_bounds.0)) refl (omega arith))
      | else-depth-gt0 w ↦ rw w.q-is (rows_dry sheet n l.own l.q (omega arith) l.invariant)
    ]

pub returns : goal.returns
returns c =
    let s = c in
    let l = c.loop-own in
    let all : l.own ≡ length s.args.excess.now = omega arith in
    let sheet = sheet_for s.args.units.now s.args.excess.now (length s.args.excess.now) in
    let n = length s.args.q.now in
    rows_all sheet n s.requires.excess_in_bounds.0 l.q (subst (λ (k : ℕ). Rows sheet n k l.q) all l.invariant)
    (λ (k : ℕ) past. get_or-eq_default s.args.excess.now 0 past)
