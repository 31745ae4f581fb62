-- `shaping::refuse_broken` meets its contract: arm by arm.
use Rattle.shaping.proofs.refuse_broken.Goals as goal

pub returns-in-Reach : goal.returns-in-Reach
returns-in-Reach c = λ name. rw c.in-Reach.is (c.refuse_reach.ensures name)

pub returns-in-Pond : goal.returns-in-Pond
returns-in-Pond c = λ name. rw c.in-Pond.is (c.refuse_pond.ensures name)
