-- Only a record that stands once is repeated.
use Rattle.std.proofs.Common.{rules, sym, ◌∙◌}
use Rattle.blocks.specs.Values.{once-repeated}
use Rattle.blocks.proofs.is_repeated.Goals as goal

pub returns-then-way_of-eq0 : goal.returns-then-way_of-eq0
returns-then-way_of-eq0 c = λ name. c.is_given.ensures name ∙ once-repeated c.args.item name c.args.cards.now (sym c.way_of.ensures ∙ c.if-way_of-eq0.true)
