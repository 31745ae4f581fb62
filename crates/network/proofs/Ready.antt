-- What an accepted deck shows of its network, what networks that pair off share of it, and what it leaves to go wrong.
--     done_on       work that was done was done on such a network
--     ready_same    networks that pair off are both such, or neither
--     done_or_eleven    work on such a network is done, or stops by 11 since more than twenty would be held at once
use Rattle.std.specs.Prelude.{◌≡◌, ◌⊎◌, List, [], ◌∷◌, ℕ, ◌≤◌, ◌<◌, length}
use Rattle.std.proofs.Common.{sym, ap, ◌∙◌, inl, inr, ⊎_elim, arith, lt-ltb, le-ltb, ltb-false}
use Rattle.meaning.specs.Words.{◌<?◌, met}
use Rattle.meaning.specs.Blocks.{Time, Block}
use Rattle.meaning.specs.Results.{Result}
use Rattle.meaning.specs.Run.{Worked, Stopped, Done}
use Rattle.passes.specs.One.{time_at}
use Rattle.sequences.specs.Choices.{below_or_not}
use Rattle.sequences.specs.Refusals.{not_met}
use Rattle.network.specs.Network.{none, network_results, network_of}
use Rattle.network.specs.Order.{Sound, most_waiting}
use Rattle.network.specs.Pairing.{Same, count_same, weight_same}
use Rattle.network.proofs.Flows.{fit_all_same}
use Rattle.network.proofs.Drawing.{size-drawn}
use Rattle.network.specs.Steps.{Ends, WorkedAs, first_refusal, closed_from}
use Rattle.network.proofs.Refusals.{none_met, eleven_only, closed_by_network}
use Rattle.network.specs.Ready.{Ready, ends_done, DoneOn}

pub as_many : (bs cs : List Block) → Same (network_of bs) (network_of cs) → length bs ≡ length cs
as_many bs cs p = omega (arith, weight_same (λ (b : Block). 1) p, size-drawn bs none, size-drawn cs none)

pub ready_same : (τ : Time) (bs cs : List Block) → Same (network_of bs) (network_of cs) → Ready τ bs → Ready τ cs
ready_same τ bs cs p r =
    record { fit = fit_all_same τ p r.fit; single = sym (count_same p) ∙ r.single; few = rw (as_many bs cs p) at r.few }

-- OF A WALK under the ratio at a place.
module _ (k : ℕ) (σ : Time) where
  abbrev τ : Time
  τ = time_at k σ

  pub done_on : (bs : List Block) (ratios : ℕ) (w : Worked) (ρ : Time) (qss : List (List Result)) → WorkedAs k (Sound σ bs) ratios w → w ≡ Done ρ qss → DoneOn k σ bs ratios w
  done_on [] ratios w ρ qss h d = let f = h.2 in let z : ◌≡◌ {A = ℕ} 0 1 = cc in absurd (omega arith)
  done_on (b ∷ bs) ratios w ρ qss h d =
      let e = ends_done (first_refusal τ 1 [] b bs) σ (closed_from τ [] (b ∷ bs)) ρ qss h.1 d in
      let a = none_met τ 1 none b bs (omega arith) tt e.0 in
      let m = most_waiting (b ∷ bs) in
      record {
        ready = record { fit = a.0; single = a.1; few = omega (arith, a.2) };
        waiting = ltb-false 20 m (not_met (20 <? m) 10 (sym (eleven_only τ 1 none b bs a.2 a.0 a.1) ∙ e.0));
        results = e.1 ∙ ap (λ (rs : List Result). Done σ (rs ∷ [])) (closed_by_network τ (b ∷ bs));
        counted = h.0;
      }

  pub done_or_eleven : (cs : List Block) (ratios : ℕ) (w : Worked) → Ready τ cs → WorkedAs k (Sound σ cs) ratios w
      → ((w ≡ Done σ (network_results τ (network_of cs) ∷ [])) × (most_waiting cs ≤ 20)) ⊎ ((line : ℕ) × (w ≡ Stopped 11 line) × (20 < most_waiting cs))
  done_or_eleven [] ratios w r h = absurd (omega (arith, r.single))
  done_or_eleven (c ∷ cs) ratios w r h =
      let m = most_waiting (c ∷ cs) in
      let e = eleven_only τ 1 none c cs (omega (arith, r.few)) r.fit r.single in
      let ended : Ends (met (20 <? m) 11) σ (closed_from τ [] (c ∷ cs)) w = rw e at h.1 in
      ⊎_elim
      (λ (over : 20 < m). let stop : Ends 11 σ (closed_from τ [] (c ∷ cs)) w = rw (lt-ltb 20 m over) at ended in inr (stop.0, stop.1, over))
      (λ (under : m ≤ 20).
      let done : Ends 0 σ (closed_from τ [] (c ∷ cs)) w = rw (le-ltb 20 m under) at ended in
      inl (done ∙ ap (λ (rs : List Result). Done σ (rs ∷ [])) (closed_by_network τ (c ∷ cs)), under))
      (below_or_not 20 m)
