-- From what becomes of the lines to what comes back (specs/Answers.antt).
--     outcome_done    the outcome, where room is enough and the deck not too long
use Rattle.std.specs.Prelude.{◌≡◌, false, List, ℕ, ◌≤◌}
use Rattle.std.proofs.Math.ListN.{length}
use borrow.Author.Tests.{le-ltb}
use Rattle.meaning.specs.Words.{when◌then◌else◌}
use Rattle.meaning.specs.Blocks.{Time, ratios_of, Block}
use Rattle.meaning.specs.Results.{Result}
use Rattle.meaning.specs.Run.{Done, worked, Lent, record_bytes, accepted, no_room, outcome, work_size, deck_size}
use Rattle.network.specs.Order.{Enough}
use Rattle.network.specs.Answers.{Full}

-- Room is enough just where 1 and 17 are not met.
module _ (τ : Time) (bs : List Block) (named ratio : ℕ) (lent : Lent) where
  abbrev ratios : ℕ
  ratios = length (ratios_of τ)

  room_enough : Enough τ bs named ratio lent → no_room named ratio τ.ordinates (length bs) ratios lent ≡ false
  unfolding no_room
  room_enough h =
      let bytes = le-ltb lent.records (record_bytes (length bs) ratios) h.records in
      rw (le-ltb lent.ordinates τ.ordinates h.ordinates, bytes, le-ltb (length bs) named h.block, le-ltb ratios ratio h.ratio-listed)

module _ (deck : List ℕ) (named ratio : ℕ) (lent : Lent) where
  pub outcome_done : {τ : Time} {bs : List Block} (rss : List (List Result)) → length deck ≤ deck_size → Enough τ bs named ratio lent → Full τ bs rss → worked deck ≡ Done τ rss
      → outcome deck named ratio lent ≡ accepted named ratio τ rss lent
  unfolding outcome when◌then◌else◌
  outcome_done {τ} {bs} rss short room full w =
      rw (le-ltb lent.work work_size room.work, le-ltb deck_size (length deck) short, w, full.blocks, full.ratios, room_enough τ bs named ratio lent room)
