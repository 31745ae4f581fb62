-- Two outcomes that meet the contract of this crate, as its `ensures` lines have it, are equal: the bytes after, and the place behind the text.
use mathlib.Core.Path.{◌≡◌}
use Rattle.sequences.specs.OneOutcome.{Once}
use Rattle.text.specs.Written.{written_once}
use Rattle.sheeting.proofs.sheet_deck.Kinds as sheet-deck
use Rattle.sheeting.proofs.sheet_deck.Reads as sheet-deck-says

pub one_sheet-deck : Once sheet-deck.ps sheet-deck.r sheet-deck-says.Post (λ κs x y e f. (x ≡ y) × (e.1.1.1.0.now ≡ f.1.1.1.0.now))
one_sheet-deck κs a x y e f p q = written_once p.0 q.0
