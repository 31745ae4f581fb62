-- The walk starts with nothing read, and zeros lent.
use Rattle.std.proofs.Common.{refl}
use Rattle.walking.specs.Start.{starts}
use Rattle.walking.proofs.walk_deck.Goals as goal

pub loop-next-init : goal.loop-next-init
loop-next-init c =
    let p = c.requires in
    (starts _ _ _ _ _ _ _ _ c.first_state-s.ensures p.place_bound p.work_size_in_bounds.0 p.ordinates_value.0 p.ordinates_value.1, refl, refl)
