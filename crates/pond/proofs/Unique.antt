-- Two outcomes that meet a contract of this crate, as its `ensures` lines have it, are equal.
use mathlib.Core.Path.{◌≡◌, sym, ◌∙◌}
use Rattle.sequences.specs.OneOutcome.{Once}
use Rattle.pond.proofs.table_breaks.Kinds as table-breaks
use Rattle.pond.proofs.table_breaks.Reads as table-breaks-says
use Rattle.pond.proofs.pass_pool.Kinds as pass-pool
use Rattle.pond.proofs.pass_pool.Reads as pass-pool-says

pub one_table_breaks : Once table-breaks.ps table-breaks.r table-breaks-says.Post (λ κs x y e f. x ≡ y)
one_table_breaks κs a x y e f p q = p ∙ sym q

pub one_pass-pool : Once pass-pool.ps pass-pool.r pass-pool-says.Post (λ κs x y e f. (e.0.now ≡ f.0.now) × (x ≡ y))
one_pass-pool κs a x y e f p q = (p.0 ∙ sym q.0, p.1 ∙ sym q.1)
