-- Two outcomes that meet a contract of this crate, as its `ensures` line has it, are equal: every byte lent, and how many were written.
use mathlib.Core.Path.{◌≡◌}
use Rattle.sequences.specs.OneOutcome.{Once}
use Rattle.listing.proofs.list_deck.Kinds as list-deck
use Rattle.listing.proofs.list_deck.Reads as list-deck-says

pub one_list_deck : Once list-deck.ps list-deck.r list-deck-says.Post (λ κs x y e f. (x ≡ y) × (e.1.0.now ≡ f.1.0.now))
one_list_deck κs a x y e f p q =
    let one = p.0.place in
    let other = q.0.place in
    let bytes = p.0.bytes in
    let others = q.0.bytes in
    (cc, cc)
