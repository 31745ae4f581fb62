-- IT's values in a time control without ratios.
use Rattle.std.specs.Prelude.{ℕ, List}
use Rattle.std.proofs.Common.{ap}
use Rattle.taking.specs.Taken.{time_taken, with_listed, timed_with}
use Rattle.taking.proofs.take_time.Goals as goal

pub returns : goal.returns
returns c =
    let none = c.no_ratios.ensures in
    timed_with _ _ c.with_time.ensures (ap (λ (l : List ℕ). with_listed l (time_taken c.args.values.now)) none.0) none.1
