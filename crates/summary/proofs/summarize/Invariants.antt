-- After i turns peak and first interval are those of the first i ordinates, none of which is above the limit, and the sum with that of the others is the whole sum.
use Prim.Native.Nat.{ℕ, ◌≤◌, ◌+◌, ◌*◌}
use mathlib.Core.Path.{◌≡◌}
use mathlib.Core.List.{List}
use lib.ListN.{drop}
use Rattle.meaning.specs.Water.{sum_of, flow_limit}
use Rattle.summary.specs.Peaks.{Scanned}
use Rattle.summary.proofs.summarize.Given as goal

pub record Inv (q : List ℕ) (peak first sum i : ℕ) : Type 0 where
  pub passed : first ≤ i
  pub scanned : Scanned q i peak first
  pub within : peak ≤ flow_limit
  pub rest : sum + sum_of (drop i q) ≡ sum_of q
  pub low : sum ≤ flow_limit * i

abbrev pub invariant-loop-i : goal.invariant-loop-i
invariant-loop-i l = Inv l.q l.peak l.first l.sum l.i
