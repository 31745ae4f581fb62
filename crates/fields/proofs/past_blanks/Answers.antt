-- The first byte that is no blank ends the run of blanks.
use Rattle.std.proofs.Common.{rules, tests, ◌≡◌, ◌+◌, ◌∙◌, ap, not, length}
use Rattle.std.specs.Option.{unwrap_or}
use Rattle.std.specs.List.{position}
use Rattle.std.proofs.lemmas.Iterator.{YieldsList-from_slice}
use Rattle.std.proofs.lemmas.Iterator.Search.{position_from_yields_List}
use Rattle.meaning.specs.Fields.{is_blank}
use Rattle.sequences.specs.Runs.{run}
use Rattle.slices.specs.Stops.{first_other}
use Rattle.fields.proofs.past_blanks.Goals as goal

pub returns : goal.returns
returns c =
    let s = c.rest_from-rest.result.now in
    let found : c.position.result ≡ position (λ b. not (is_blank b)) s = position_from_yields_List (λ b. not (is_blank b)) _ _ c.position.result c.position.ensures.ran (YieldsList-from_slice _ c.iter.ensures.rest) (λ x b q k. search (rules, tests)) in
    ap (λ n. c.args.at + n) (c.unwrap_or.ensures ∙ ap (λ o. unwrap_or o (length s)) found ∙ first_other is_blank s ∙ ap (run is_blank) c.rest_from-rest.ensures)
