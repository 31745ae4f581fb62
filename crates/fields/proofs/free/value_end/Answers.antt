-- The first byte that ends a value ends the run of a value's bytes.
use Rattle.std.proofs.Common.{rules, tests, ◌≡◌, ◌+◌, ◌∙◌, ap, not, length}
use Rattle.std.specs.Option.{unwrap_or}
use Rattle.std.specs.List.{position}
use Rattle.std.proofs.lemmas.Iterator.{YieldsList-from_slice}
use Rattle.std.proofs.lemmas.Iterator.Search.{position_from_yields_List}
use Rattle.sequences.specs.Runs.{run}
use Rattle.slices.specs.Stops.{first_other}
use Rattle.fields.specs.Spans.{in_value}
use Rattle.fields.proofs.free.value_end.Goals as goal

pub returns : goal.returns
returns c =
    let s = c.rest_from-rest.result.now in
    let found : c.position.result ≡ position (λ b. not (in_value b)) s = position_from_yields_List (λ b. not (in_value b)) _ _ c.position.result c.position.ensures.ran (YieldsList-from_slice _ c.iter.ensures.rest) (λ x b q k. search (rules, tests)) in
    ap (λ n. c.args.at + n) (c.unwrap_or.ensures ∙ ap (λ o. unwrap_or o (length s)) found ∙ first_other in_value s ∙ ap (run in_value) c.rest_from-rest.ensures)
