-- Where a deck is worked to its end, and where it is stopped. From the walks under each ratio to all of them, and back: proofs/Walks.antt.
use Rattle.std.specs.Prelude.{ℕ, ◌≡◌, List}
use Rattle.meaning.specs.Blocks.{Time}
use Rattle.meaning.specs.Results.{Result}
use Rattle.meaning.specs.Run.{Worked, Stopped, Done}

abbrev pub IsDone : Worked → Type 0
IsDone w = (σ : Time) × (rss : List (List Result)) × (w ≡ Done σ rss)

abbrev pub IsStopped : ℕ → Worked → Type 0
IsStopped number w = (line : ℕ) × (w ≡ Stopped number line)
