-- After i turns peak and first interval are those of the first i ordinates, none of which is above the limit, and the sum with that of the others is the whole sum.
use Prim.Native.Nat.{ℕ, ◌≤◌, ◌<◌, ◌+◌}
use mathlib.Core.Path.{◌≡◌, refl}
use mathlib.Core.List.{List}
use native.Mathlib.Nat.{le_refl}
use native.Mathlib.Omega.{arith}
use lib.ListN.{length, get_or, drop}
use lib.Seq.{drop-length}
use Rattle.meaning.specs.Water.{sum_of, flow_limit}
use Rattle.meaning.specs.Results.{peak_of}
use Rattle.sequences.specs.Sums.{sum_of-drop}
use Rattle.summary.specs.Summary.{same_summary, summary_over, summary-within}
use Rattle.summary.specs.Peaks.{Scanned, scan_higher, scan_kept, scan_all, all_below_peak}
use Rattle.summary.proofs.summarize.Goals as goal
use Rattle.summary.proofs.summarize.Goals.{then-peak-flow+else-flow-gt-FLOW_LIMIT, else-peak-flow}

pub loop-i-init : goal.loop-i-init
loop-i-init c =
    record { passed = omega arith; scanned = record { top = refl; at = refl }; within = omega arith; rest = omega arith; low = omega arith }

-- an ordinate above the limit: so is the peak
pub returns-then-flow-gt-FLOW_LIMIT : goal.returns-then-flow-gt-FLOW_LIMIT
returns-then-flow-gt-FLOW_LIMIT c =
    let q = c.args.q.now in
    let l = c.loop-i in
    let high : flow_limit < peak_of q = omega (arith, c.if-flow-gt-FLOW_LIMIT.true, all_below_peak q (peak_of q) (le_refl (peak_of q)) l.i) in
    summary_over q high

-- what a turn finds of its ordinate: it is within the limit, and so are the peak with it and where that stands
record Below (q : List ℕ) (i peak first : ℕ) : Type 0 where
  low : get_or q i 0 ≤ flow_limit
  scanned : Scanned q (i + 1) peak first
  within : peak ≤ flow_limit
  passed : first ≤ i

below_higher : {q : List ℕ} {i peak first : ℕ} → Scanned q i peak first → i < length q → peak < get_or q i 0 → get_or q i 0 ≤ flow_limit → Below q i (get_or q i 0) i
below_higher so inside higher low = record { low = low; scanned = scan_higher so inside higher; within = low; passed = omega arith }

below_kept : {q : List ℕ} {i peak first : ℕ} → Scanned q i peak first → i < length q → get_or q i 0 ≤ peak → peak ≤ flow_limit → first ≤ i → Below q i peak first
below_kept so inside kept within passed = record { low = omega arith; scanned = scan_kept so inside kept; within = within; passed = passed }

pub overflow_add-sum : goal.overflow_add-sum
overflow_add-sum c =
    elim c.if-peak-flow.branch [
      | then-peak-flow+else-flow-gt-FLOW_LIMIT w ↦ omega (arith, w.if-flow-gt-FLOW_LIMIT.false, c.loop-i.invariant.low)
      | else-peak-flow w ↦ omega (arith, w.if-peak-flow.false, c.loop-i.invariant.within, c.loop-i.invariant.low)
    ]

pub loop-i-preserved : goal.loop-i-preserved
loop-i-preserved c =
    let l = c.loop-i in
    let q = c.args.q.now in
    let v = l.invariant in
    let b : Below q l.i c.if-peak-flow.peak c.if-peak-flow.first =
    elim c.if-peak-flow.branch [
      | then-peak-flow+else-flow-gt-FLOW_LIMIT w ↦ rw (w.peak-is, w.first-is) (below_higher v.scanned (omega arith) (omega arith) (omega arith))
      | else-peak-flow w ↦ rw (w.peak-is, w.first-is) (below_kept v.scanned (omega arith) (omega arith) v.within v.passed)
    ]
    in
    let step = sum_of-drop q l.i (omega arith) in
    record {
      passed = omega (arith, b.passed);
      scanned = b.scanned;
      within = b.within;
      rest = omega (arith, step, v.rest);
      low = omega (arith, b.low, v.low);
    }

pub returns : goal.returns
returns c =
    let l = c.loop-i in
    let q = c.args.q.now in
    let all : l.i ≡ length q = omega arith in
    let none : sum_of (drop l.i q) ≡ 0 = rw (all, drop-length) in
    let sum : l.sum ≡ sum_of q = omega (arith, l.invariant.rest) in
    let found = scan_all l.invariant.scanned all in
    let low : peak_of q ≤ flow_limit = omega (arith, found.0, l.invariant.within) in
    summary-within q low (same_summary q found.0 (omega (arith, found.1)) sum)
