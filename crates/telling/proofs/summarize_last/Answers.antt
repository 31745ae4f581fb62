-- `telling::summarize_last` meets its contract: the part lent is the words of the last place.
use native.Mathlib.Omega.{arith}
use Rattle.summary.specs.Summary.{summary_within}
use Rattle.telling.specs.LastHeld.{lent_by, lent_few}
use Rattle.telling.proofs.summarize_last.Goals as goal

pub summarize-requires : goal.summarize-requires
summarize-requires c =
    let s = c in
    let x = s.args in
    lent_few x.held x.nq x.work.now s.requires _ (omega (arith, c.last_place-p.ensures))

pub returns : goal.returns
returns c =
    let x = c.args in
    lent_by x.held x.nq x.work.now summary_within _ c.summarize.ensures (omega (arith, c.last_place-p.ensures))
