-- How many a confluence takes is the card's own number.
use Rattle.shaping.proofs.taken_by.Goals as goal

pub returns-in-Confluence : goal.returns-in-Confluence
returns-in-Confluence c = λ name. rw c.in-Confluence.is (c.value_at.ensures name)
