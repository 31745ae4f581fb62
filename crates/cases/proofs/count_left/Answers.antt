-- The words that pass the test are those that are left.
use Rattle.std.proofs.Common.{ℕ, ◌≡◌, sym, ◌∙◌, rules}
use Rattle.std.specs.Prelude.{count_by, not, ◌==◌}
use Rattle.cases.specs.Fronts.{left_counts}
use Rattle.cases.proofs.count_left.Goals as goal

pub returns : goal.returns
returns c =
    let counted : c.count.result ≡ count_by (λ (x : ℕ). not (x == 0)) c.args.words.now = search rules in
    counted ∙ sym (left_counts c.args.words.now)
