-- `storms::is_dry` meets its contract: that no value listed is above 0 is that nothing falls.
use Rattle.std.proofs.Common.{rules, tests, ℕ, ◌∙◌, ◌==◌}
use Rattle.std.proofs.lemmas.Iterator.{YieldsList-from_slice, YieldsList-from_take}
use Rattle.std.proofs.lemmas.Iterator.Search.{all_from_yields_List}
use Rattle.storms.specs.Rains.{dry_listed}
use Rattle.storms.proofs.is_dry.Goals as goal

pub returns : goal.returns
returns c =
    all_from_yields_List (λ (depth : ℕ). depth == 0) _ _ c.all.result c.all.ensures.ran
    (YieldsList-from_take c.args.intervals (YieldsList-from_slice c.args.rains.now cc) cc)
    (λ x b q k. search (rules, tests))
    ∙ dry_listed c.args.rains.now c.args.intervals
