-- `making::storm_of` meets its contract: its total, its ratio and its loss are the block's own.
use mathlib.Core.Path.{refl}
use Rattle.making.proofs.storm_of.Goals as goal

pub returns : goal.returns
returns c = λ name. rw (c.total_of-total.ensures name, c.loss_of-loss.ensures name) refl
