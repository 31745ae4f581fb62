-- Two outcomes that meet a contract of this crate, as its `ensures` lines have it, are equal: of a text that is written, every byte lent and how many were written.
use mathlib.Core.Path.{◌≡◌, sym, ◌∙◌}
use Rattle.sequences.specs.OneOutcome.{Once}
use Rattle.text.specs.Written.{written_once}
use Rattle.moves.proofs.read_move.Kinds as read-move
use Rattle.moves.proofs.read_move.Reads as read-move-says
use Rattle.moves.proofs.write_move.Kinds as write-move
use Rattle.moves.proofs.write_move.Reads as write-move-says

pub one_read-move : Once read-move.ps read-move.r read-move-says.Post (λ κs x y e f. x ≡ y)
one_read-move κs a x y e f p q = p ∙ sym q

pub one_write_move : Once write-move.ps write-move.r write-move-says.Post (λ κs x y e f. (x ≡ y) × (e.0.now ≡ f.0.now))
one_write_move κs a x y e f p q = written_once p.0 q.0
