-- The turns are those of the walk, and each goes on further behind in the deck. What was lent keeps its length.
use Rattle.std.proofs.Common.{◌≡◌, ◌-◌, length}
use Rattle.walking.specs.Going.{Going}
use Rattle.walking.proofs.walk_deck.Given as goal

abbrev pub invariant-loop-next : goal.invariant-loop-next
invariant-loop-next l =
    Going l.deck l.named l.place (length l.fn.ordinates) (length l.fn.records) l.s l.work l.ordinates l.records l.cards
    × (length l.ordinates ≡ length l.fn.ordinates) × (length l.records ≡ length l.fn.records)

abbrev pub decreases-loop-next : goal.decreases-loop-next
decreases-loop-next l = length l.deck - l.s.at
