-- From the walks under each ratio to all of them, and back.
--     ratios_done       a deck that is worked to its end is so under each ratio
--     done_under_all    and where it is so under each ratio, the results come ratio by ratio
--     stopped_alike     where each walk stops by the same refusal, so do all together, at the earliest of their lines
use Rattle.std.specs.Prelude.{ℕ, zero, suc, ◌+◌, ◌-◌, ◌≤◌, ◌<◌, ◌≡◌, refl, Bool, true, false, List, [], ◌∷◌, map, length, take, get_or}
use Rattle.std.proofs.Common.{sym, ap, ◌∙◌, ⊎_elim, add-one, arith, take-suc, take_all}
use Rattle.std.proofs.lemmas.List.{map-append}
use Rattle.meaning.specs.Words.{when◌then◌else◌}
use Rattle.meaning.specs.Blocks.{Time}
use Rattle.meaning.specs.Results.{Result}
use Rattle.meaning.specs.Run.{Only, Worked, Stopped, Done, worked_under, worked}
use Rattle.sequences.specs.Choices.{below_or_not}
use Rattle.passes.specs.Scripts.{Script, Fails, Ends, Starts, Closes, script_of}
use Rattle.passes.specs.Apart.{comes_first, sooner, apart, ratio_count}
use Rattle.passes.specs.InOrder.{Begun}
use Rattle.passes.proofs.InOrder.{deck-begun}
use Rattle.passes.specs.Together.{some_ratio}
use Rattle.passes.proofs.Together.{together_apart}
use Rattle.passes.specs.Walks.{IsDone, IsStopped}

-- some ratio
count-begun : (s : Script) (count : ℕ) → Begun s count → 0 < count
count-begun (Fails number line) count b = omega arith
count-begun (Ends τ) count b = absurd b
count-begun (Starts τ s) count b = rw b.0 (some_ratio τ)
count-begun (Closes c line s) count b = absurd b

pub count_some : (deck : List ℕ) → 0 < ratio_count deck
count_some deck = count-begun (script_of deck) (ratio_count deck) (deck-begun deck)

if_either : (t : Bool) (a b : Worked) (P : Worked → Type 0) → P a → P b → P (when t then a else b)
unfolding when◌then◌else◌
if_either true a b P p q = p
if_either false a b P p q = q

not_done : (number line : ℕ) (w : Worked) → w ≡ Stopped number line → IsDone w → ⊥
not_done number line w e d = let f = d.2 in let z : ◌≡◌ {A = ℕ} 0 1 = cc in omega arith

stopped_not : (t : Bool) (n l m k : ℕ) → IsDone (when t then Stopped n l else Stopped m k) → ⊥
stopped_not t n l m k d = if_either t (Stopped n l) (Stopped m k) (λ (w : Worked). IsDone w → ⊥) (not_done n l _ refl) (not_done m k _ refl) d

sooner_done : (w v : Worked) → IsDone (sooner w v) → IsDone w × IsDone v
sooner_done (Stopped n l) (Stopped m k) d = absurd (stopped_not (comes_first n l m k) n l m k d)
sooner_done (Stopped n l) (Done σ rss) d = absurd (not_done n l _ refl d)
sooner_done (Done σ rss) (Stopped m k) d = absurd (not_done m k _ refl d)
sooner_done (Done σ rss) (Done τ qss) d = ((σ, rss, refl), (τ, qss, refl))

sooner_stopped : (number : ℕ) (w v : Worked) → IsStopped number w → IsStopped number v → IsStopped number (sooner w v)
sooner_stopped number w v p q =
    rw (p.1, q.1)
    (if_either (comes_first number p.0 number q.0) (Stopped number p.0) (Stopped number q.0) (IsStopped number) (p.0, refl) (q.0, refl))

module _ (deck : List ℕ) where
  apart_done : (left k : ℕ) (found : Worked) → IsDone (apart deck found k left) → IsDone found × ((j : ℕ) → k ≤ j → j < k + left → IsDone (worked_under (Only j) deck))
  apart_done zero k found d = (d, λ (j : ℕ) h l. absurd (omega arith))
  apart_done (suc left) k found d =
      let i = apart_done left (k + 1) (sooner found (worked_under (Only k) deck)) d in
      let s = sooner_done found (worked_under (Only k) deck) i.0 in (
        s.0,
        λ (j : ℕ) (h : k ≤ j) (l : j < k + suc left).
            ⊎_elim
            (λ (below : k < j). i.1 j (omega arith) (omega arith))
            (λ (same : j ≤ k). let e : k ≡ j = omega arith in rw e at s.1)
            (below_or_not k j),
      )

  pub ratios_done : IsDone (worked deck) → (k : ℕ) → k < ratio_count deck → IsDone (worked_under (Only k) deck)
  ratios_done d zero h = (apart_done (ratio_count deck - 1) 1 (worked_under (Only 0) deck) (rw (together_apart deck) at d)).0
  ratios_done d (suc k) h = (apart_done (ratio_count deck - 1) 1 (worked_under (Only 0) deck) (rw (together_apart deck) at d)).1 (suc k) (omega arith) (omega arith)

  apart_stopped : (number left k : ℕ) (found : Worked) → IsStopped number found → ((j : ℕ) → j < k + left → IsStopped number (worked_under (Only j) deck)) → IsStopped number (apart deck found k left)
  apart_stopped number zero k found f g = f
  apart_stopped number (suc left) k found f g =
      apart_stopped number left (k + 1) (sooner found (worked_under (Only k) deck)) (sooner_stopped number found (worked_under (Only k) deck) f (g k (omega arith))) (λ (j : ℕ) h. g j (omega arith))

  pub stopped_alike : (number : ℕ) → ((k : ℕ) → k < ratio_count deck → IsStopped number (worked_under (Only k) deck)) → IsStopped number (worked deck)
  stopped_alike number g =
      let some = count_some deck in
      rw (together_apart deck) (apart_stopped number (ratio_count deck - 1) 1 (worked_under (Only 0) deck) (g 0 some) (λ (j : ℕ) h. g j (omega arith)))

  module _ (σ : Time) (rs : List ℕ) (f : ℕ → List Result) (each : (k : ℕ) → k < length rs → worked_under (Only k) deck ≡ Done σ (f (get_or rs k 100) ∷ [])) where
    apart_all : (left k : ℕ) (found : Worked) → k + left ≡ length rs → found ≡ Done σ (map f (take k rs)) → apart deck found k left ≡ Done σ (map f rs)
    apart_all zero k found n e = let long : length rs ≤ k = omega arith in e ∙ ap (λ (qs : List ℕ). Done σ (map f qs)) (take_all k rs long)
    apart_all (suc left) k found n e =
        let h : k < length rs = omega arith in
        apart_all left (k + 1) (sooner found (worked_under (Only k) deck)) (omega arith)
        (rw (e, each k h, add-one, take-suc rs k 100 h, map-append f (take k rs) (get_or rs k 100 ∷ [])))

    pub done_under_all : ratio_count deck ≡ length rs → worked deck ≡ Done σ (map f rs)
    done_under_all n =
        let some = count_some deck in
        let h : 0 < length rs = omega arith in
        together_apart deck
        ∙ apart_all (ratio_count deck - 1) 1 (worked_under (Only 0) deck) (omega arith) (each 0 h ∙ sym (ap (λ (qs : List ℕ). Done σ (map f qs)) (take-suc rs 0 100 h)))
