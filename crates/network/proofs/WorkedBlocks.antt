-- A deck that is worked to its end: its lines read soundly, and its results under each ratio are those of the blocks that they say, in their order.
--     done_as_said     the time control and the blocks that the lines say
use Rattle.std.specs.Prelude.{◌≡◌, refl, List, [], ◌∷◌, map, ℕ, ◌<◌, length, get_or}
use Rattle.std.proofs.Common.{ap, ◌∙◌, arith}
use Rattle.meaning.specs.Blocks.{Time, ratios_of}
use Rattle.meaning.specs.Results.{Result}
use Rattle.meaning.specs.Run.{Only, Done, worked_under, worked}
use Rattle.passes.specs.Apart.{ratio_count}
use Rattle.passes.specs.Together.{ratio-at}
use Rattle.passes.proofs.Walks.{count_some, ratios_done, done_under_all}
use Rattle.passes.specs.One.{time_at}
use Rattle.network.specs.Order.{Said, Unsound, Sound, said}
use Rattle.network.specs.Steps.{first_refusal, closed_from, Stops, WorkedAs}
use Rattle.network.proofs.Steps.{worked_as_said}
use Rattle.network.specs.Ready.{ends_done}
use Rattle.network.specs.WorkedBlocks.{closed_under, DoneAs}

module _ (deck : List ℕ) (τ : Time) (rss : List (List Result)) (done : worked deck ≡ Done τ rss) where
  not_stopped : Stops (worked_under (Only 0) deck) → DoneAs deck τ rss
  not_stopped s =
      let d = (ratios_done deck (τ, rss, done) 0 (count_some deck)).2 in
      let f = s.2 in
      let z : ◌≡◌ {A = ℕ} 0 1 = cc in
      absurd (omega arith)

  by_said : (s : Said) → said deck ≡ s → ((k : ℕ) → WorkedAs k s (ratio_count deck) (worked_under (Only k) deck)) → DoneAs deck τ rss
  by_said Unsound e under-each = not_stopped (under-each 0)
  by_said (Sound σ []) e under-each = not_stopped (under-each 0)
  by_said (Sound σ (b ∷ bs)) e under-each =
      let counted = (under-each 0).0 in
      let each : (k : ℕ) → k < length (ratios_of σ) → worked_under (Only k) deck ≡ Done σ (closed_under σ (b ∷ bs) (get_or (ratios_of σ) k 100) ∷ []) =
      λ (k : ℕ) (h : k < length (ratios_of σ)).
      let d = ratios_done deck (τ, rss, done) k (omega arith) in
      (ends_done (first_refusal (time_at k σ) 1 [] b bs) σ (closed_from (time_at k σ) [] (b ∷ bs)) d.0 d.1 (under-each k).1 d.2).1
      ∙ ap (λ (r : ℕ). Done σ (closed_under σ (b ∷ bs) r ∷ [])) (ratio-at k σ) in
      let all = done_under_all deck σ (ratios_of σ) (closed_under σ (b ∷ bs)) each counted in
      let same-time : σ ≡ τ = cc (done, all) in
      let same-results : rss ≡ map (closed_under σ (b ∷ bs)) (ratios_of σ) = cc (done, all) in
      record {
        blocks = b ∷ bs;
        sound = e ∙ ap (λ (ρ : Time). Sound ρ (b ∷ bs)) same-time;
        results = same-results ∙ ap (λ (ρ : Time). map (closed_under ρ (b ∷ bs)) (ratios_of ρ)) same-time;
      }

  pub done_as_said : DoneAs deck τ rss
  done_as_said = by_said (said deck) refl (λ (k : ℕ). worked_as_said k deck)
