-- `shaping::refuse_pond` meets its contract: the values of its table are within their limits.
use mathlib.Core.Path.{◌∙◌}
use mathlib.Core.List.{[]}
use Rattle.meaning.specs.Records.{SV, SQ}
use Rattle.shaping.proofs.refuse_pond.Goals as goal

pub table_breaks-breaks-requires : goal.table_breaks-breaks-requires
table_breaks-breaks-requires c =
    let s = c in record { m_bound = s.requires.time.few-minutes; all_up_to = rw (c.values-svs.ensures []) (s.requires.cards SV).high; all_up_to_2 = rw (c.values-sqs.ensures []) (s.requires.cards SQ).high }

pub returns : goal.returns
returns c = λ name.
    let q = c in
    c.refuse_if.ensures ∙ rw (q.table_breaks-breaks.ensures, q.values-svs.ensures name, q.values-sqs.ensures name)
