-- After each round the rounds stand as `Rounds` says. What was lent keeps its length.
use Rattle.std.proofs.Common.{◌≡◌, ◌≤◌, length}
use Rattle.meaning.specs.Records.{table}
use Rattle.records.specs.Rows.{words_of}
use Rattle.rounds.specs.Rounds.{Rounds}
use Rattle.rounds.proofs.walk_every.Given as goal

abbrev pub invariant-loop-place : goal.invariant-loop-place
invariant-loop-place l =
    Rounds l.deck l.wanted (length l.fn.ordinates) (length l.fn.records) l.place l.worked l.ordinates l.records
    × (length l.work ≡ length l.fn.work) × (length l.ordinates ≡ length l.fn.ordinates) × (length l.records ≡ length l.fn.records) × (length l.cards ≡ words_of table)
