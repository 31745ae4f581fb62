-- By the line's head, and by its record's place.
use Rattle.std.proofs.Common.{rules, Ok, ◌∙◌, ap}
use Rattle.std.proofs.lemmas.Result.{err_from_is_err_and}
use Rattle.sorting.specs.Sorted.{skipped, unknown, placed}
use Rattle.sorting.proofs.sort_line.Goals as goal

pub returns-in_err-head_of : goal.returns-in_err-head_of
returns-in_err-head_of c =
    let p = err_from_is_err_and c.from_residual.result c.from_residual.ensures.1 in
    rw (p.1, p.2) (unknown c.args.r c.args.cards.now c.args.l.now c.requires.0 c.head_of.result c.head_of.ensures.0 _ c.in_err-head_of.was)

pub returns-in-None : goal.returns-in-None
returns-in-None c = skipped c.args.r c.args.cards.now c.args.l.now c.requires.0 c.head_of.result c.head_of.ensures.0 (c.in_ok-head_of.was ∙ ap Ok c.in-None.is)

pub returns-in-Some : goal.returns-in-Some
returns-in-Some c =
    let p = c.place_record in
    placed c.args.r c.args.cards.now c.args.l.now c.requires.0 c.head_of.result c.head_of.ensures.0 c.in-Some.k (c.in_ok-head_of.was ∙ ap Ok c.in-Some.is) p.result p.ensures.0 p.ensures.1
