-- CR 1's promise to a reader, and CR 3's: the intervals of a block with PB add up to its total T, in depth units, and under a ratio r, in hundredths, to floor(r·T/100), in
-- every block of every accepted deck.
--     storms-add_up     of every block of an accepted deck
use Rattle.std.specs.Prelude.{ℕ, ◌+◌, ◌≡◌, length}
use mathlib.Core.List.{List, [], ◌∷◌}
use Rattle.meaning.specs.Words.{◌=?◌, ◌≤?◌, met, first}
use Rattle.meaning.specs.Blocks.{Time, under, Block, kind_number, kind_of, patternless, Held}
use Rattle.meaning.specs.Results.{Result}
use Rattle.meaning.specs.Run.{held_after, shape_refusal, Only, Worked, Done, Lent, Accepted, worked_under, outcome, most_blocks}
use Rattle.passes.specs.Apart.{ratio_count}
use Rattle.passes.proofs.Walks.{count_some, ratios_done}
use Rattle.passes.specs.One.{time_at, closing_under}
use Rattle.sequences.specs.Refusals.{neither_met, not_met}
use Rattle.network.specs.Order.{Sound, said}
use Rattle.network.specs.Steps.{first_refusal, closed_from, WorkedAs}
use Rattle.network.proofs.Steps.{worked_as_said}
use Rattle.network.specs.Answers.{passed_all}
use Rattle.network.specs.Ready.{ends_done}
use Rattle.network.specs.Storms.{rain_adds_up, AllBlocks, Promised}

-- under whatever ratio the blocks were worked
module _ (r : ℕ) (σ : Time) where
  abbrev τ : Time
  τ = under r σ

  closed_adds_up : (b : Block) (held : List Held) → closing_under τ b held ≡ 0 → Promised σ b
  unfolding shape_refusal patternless
  closed_adds_up b held e =
      let shape = (neither_met (shape_refusal τ b (length held)) _ e).0 in
      let after9 = (neither_met (met (kind_number (kind_of b) =? 0) 9) _ shape).1 in
      rain_adds_up σ b (not_met (patternless τ b) 17 (neither_met (met (patternless τ b) 18) _ after9).0)

  blocks_add_up : (k : ℕ) (held : List Held) (b : Block) (bs : List Block) → first_refusal τ k held b bs ≡ 0 → AllBlocks (Promised σ) (b ∷ bs)
  unfolding first_refusal
  blocks_add_up k held b [] e = (closed_adds_up b held (neither_met (closing_under τ b held) _ e).0, tt)
  blocks_add_up k held b (c ∷ bs) e =
      let z = neither_met (first (closing_under τ b held) (met (most_blocks ≤? k) 14)) _ e in
      (closed_adds_up b held (neither_met (closing_under τ b held) _ z.0).0, blocks_add_up (k + 1) (held_after τ b held) c bs z.1)

done_adds_up : (k : ℕ) (σ : Time) (bs : List Block) (ratios : ℕ) (w : Worked) (ρ : Time) (qss : List (List Result)) → WorkedAs k (Sound σ bs) ratios w → w ≡ Done ρ qss
    → AllBlocks (Promised σ) bs
done_adds_up k σ [] ratios w ρ qss h d = tt
done_adds_up k σ (b ∷ bs) ratios w ρ qss h d =
    let τ = time_at k σ in
    blocks_add_up τ.ratio σ 1 [] b bs (ends_done (first_refusal τ 1 [] b bs) σ (closed_from τ [] (b ∷ bs)) ρ qss h.1 d).0

-- A deck that reads soundly, as every accepted one does: its time control and its blocks.
pub storms-add_up : (deck : List ℕ) (named ratio : ℕ) (lent : Lent) (nq blocks ratios : ℕ) (σ : Time) (bs : List Block) → said deck ≡ Sound σ bs
    → (outcome deck named ratio lent).answer ≡ Accepted nq blocks ratios → AllBlocks (Promised σ) bs
storms-add_up deck named ratio lent nq blocks ratios σ bs sound answer =
    let w = (passed_all deck named ratio lent nq blocks ratios answer).settles in
    let d = ratios_done deck (w.time, w.results, w.done) 0 (count_some deck) in
    done_adds_up 0 σ bs (ratio_count deck) (worked_under (Only 0) deck) d.0 d.1 (rw sound at (worked_as_said 0 deck)) d.2
