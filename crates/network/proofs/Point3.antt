-- POINT 3: the order in which a network is written down does not matter, under any of the deck's ratios.
--     same_hydrograph          paired blocks have the same hydrograph
--     accepted_by_network      each block of an accepted deck has, under each ratio, the hydrograph that the network alone defines
--     order_does_not_matter    another deck that draws the same network gives every block the same, or more than twenty would be waiting at once (11)
-- An accepted deck shows that every block is fit under each ratio, one is held at the end and 200 are not passed. Networks that pair off share all three, and then 11 alone
-- is left; and 11 is met under all ratios or none, since how many are waiting knows no ratio.
use Rattle.std.specs.Prelude.{◌≡◌, refl, ◌⊎◌, ℕ, ◌≤◌, ◌<◌, length}
use Rattle.std.proofs.Common.{sym, ap, ◌∙◌, inl, inr, ⊎_elim, arith}
use mathlib.Core.List.{List, [], ◌∷◌, map, Permᴰ}
use Rattle.std.proofs.lemmas.List.{length-map}
use Rattle.meaning.specs.Blocks.{Time, ratios_of, under, Block}
use Rattle.meaning.specs.Results.{Result, blocks_of, record_of}
use Rattle.meaning.specs.Run.{Only, Stopped, Done, worked_under, worked, Lent, Accepted, block_count, outcome, deck_size}
use Rattle.passes.specs.Apart.{ratio_count}
use Rattle.passes.specs.Together.{some_ratio, ratio-at}
use Rattle.passes.proofs.Walks.{count_some, ratios_done, done_under_all, stopped_alike}
use Rattle.passes.specs.One.{time_at}
use Rattle.sequences.specs.Choices.{below_or_not}
use Rattle.network.specs.Network.{Nets, makes, hydrographs, network_results, results_under, all_results, network_of}
use Rattle.network.specs.Order.{Said, Unsound, Sound, said, PairOff, most_waiting, Enough}
use Rattle.network.specs.Pairing.{Same, every_same}
use Rattle.network.proofs.Pairing.{off_same, same_off}
use Rattle.network.proofs.Flows.{makes_same, results_same}
use Rattle.network.specs.Steps.{WorkedAs}
use Rattle.network.proofs.Steps.{worked_as_said, count-said}
use Rattle.network.proofs.Refusals.{closed_by_network}
use Rattle.network.specs.Answers.{length-closed, blocks_closed, Full, enough_room, outcome_stopped, passed_all}
use Rattle.network.proofs.Answers.{outcome_done}
use Rattle.network.specs.Ready.{Ready, DoneOn}
use Rattle.network.proofs.Ready.{as_many, ready_same, done_on, done_or_eleven}
use Rattle.network.specs.Named.{named_at, moved}
use Rattle.network.specs.Point3.{ByNetwork, FoundAgain, UnderRatio, OrderFree}

-- A block's hydrograph does not depend on the order of its branches, nor on that of theirs.
pub same_hydrograph : (τ : Time) (b : Block) {bs cs : Nets} → PairOff bs cs → makes τ b (hydrographs τ bs) ≡ makes τ b (hydrographs τ cs)
same_hydrograph τ b p = makes_same τ b (off_same p)

length-results : (τ : Time) (bs : List Block) → length (network_results τ (network_of bs)) ≡ length bs
length-results τ bs = ap (length {A = Result}) (sym (closed_by_network τ bs)) ∙ length-closed τ [] bs

blocks_results : (τ : Time) (bs : List Block) → blocks_of (network_results τ (network_of bs)) ≡ bs
blocks_results τ bs = ap blocks_of (sym (closed_by_network τ bs)) ∙ blocks_closed τ [] bs

full_blocks : (f : ℕ → List Result) (n : ℕ) (rs : List ℕ) → 0 < length rs → ((r : ℕ) → length (f r) ≡ n) → block_count (map f rs) ≡ n
full_blocks f n [] h e = absurd (omega arith)
full_blocks f n (r ∷ rs) h e = e r

full : (σ : Time) (bs : List Block) → Full σ bs (all_results σ (network_of bs))
full σ bs =
    record {
      blocks = full_blocks (results_under σ (network_of bs)) (length bs) (ratios_of σ) (some_ratio σ) (λ (r : ℕ). length-results (under r σ) bs);
      ratios = length-map (ratios_of σ) (results_under σ (network_of bs));
    }

-- Lines that were worked to their end under a ratio had read soundly.
sound_done : (deck : List ℕ) (x : Said) (k : ℕ) (σ : Time) (qss : List (List Result)) → said deck ≡ x → WorkedAs k x (ratio_count deck) (worked_under (Only k) deck)
    → worked_under (Only k) deck ≡ Done σ qss → (τ : Time) × (bs : List Block) × (said deck ≡ Sound τ bs)
sound_done deck Unsound k σ qss s h d = let f = h.2 in let z : ◌≡◌ {A = ℕ} 0 1 = cc in absurd (omega arith)
sound_done deck (Sound τ bs) k σ qss s h d = (τ, bs, s)

-- UNDER EACH RATIO: a deck that is worked to its end is so under the ratio at each place; and where it is, all together come to the results of each.
module _ (deck : List ℕ) (σ : Time) (bs : List Block) (sound : said deck ≡ Sound σ bs) where
  each_done : (ρ : Time) (rss : List (List Result)) → worked deck ≡ Done ρ rss → (k : ℕ) → k < ratio_count deck → DoneOn k σ bs (ratio_count deck) (worked_under (Only k) deck)
  each_done ρ rss done k h =
      let d = ratios_done deck (ρ, rss, done) k h in
      done_on k σ bs (ratio_count deck) (worked_under (Only k) deck) d.0 d.1 (rw sound at (worked_as_said k deck)) d.2

  all_done : ratio_count deck ≡ length (ratios_of σ) → ((k : ℕ) → k < length (ratios_of σ) → worked_under (Only k) deck ≡ Done σ (network_results (time_at k σ) (network_of bs) ∷ []))
      → worked deck ≡ Done σ (all_results σ (network_of bs))
  all_done count each =
      done_under_all deck σ (ratios_of σ) (results_under σ (network_of bs))
      (λ (k : ℕ) (h : k < length (ratios_of σ)). each k h ∙ ap (λ (r : ℕ). Done σ (results_under σ (network_of bs) r ∷ [])) (ratio-at k σ))
      count

by_network : (deck : List ℕ) (named ratio : ℕ) (lent : Lent) (nq blocks ratios : ℕ) (σ : Time) (bs : List Block) → said deck ≡ Sound σ bs
    → (outcome deck named ratio lent).answer ≡ Accepted nq blocks ratios
    → ByNetwork deck named ratio lent σ bs × ((k : ℕ) → k < length (ratios_of σ) → Ready (time_at k σ) bs)
by_network deck named ratio lent nq blocks ratios σ bs sound answer =
    let p = passed_all deck named ratio lent nq blocks ratios answer in
    let w = p.settles in
    let on = each_done deck σ bs sound w.time w.results w.done in
    let first = on 0 (count_some deck) in
    let listed : (k : ℕ) → k < length (ratios_of σ) → k < ratio_count deck = λ (k : ℕ) (h : k < length (ratios_of σ)). omega (arith, first.counted) in
    let rss = all_results σ (network_of bs) in
    let all : worked deck ≡ Done σ rss = all_done deck σ bs sound first.counted (λ (k : ℕ) (h : k < length (ratios_of σ)). (on k (listed k h)).results) in
    let same-time : w.time ≡ σ = cc (w.done, all) in
    let same-results : w.results ≡ rss = cc (w.done, all) in
    let room = enough_room σ bs named ratio lent p.work (rw (same-time, same-results, (full σ bs).blocks, (full σ bs).ratios) at w.room) in (
      record {
        short = p.short;
        sound = sound;
        room = room;
        waiting = first.waiting;
        defined = outcome_done deck named ratio lent rss p.short room (full σ bs) all;
        complete = λ (r : ℕ). blocks_results (under r σ) bs;
      },
      λ (k : ℕ) (h : k < length (ratios_of σ)). (on k (listed k h)).ready,
    )

pub accepted_by_network : (deck : List ℕ) (named ratio : ℕ) (lent : Lent) (nq blocks ratios : ℕ) → (outcome deck named ratio lent).answer ≡ Accepted nq blocks ratios
    → (σ : Time) × (bs : List Block) × ByNetwork deck named ratio lent σ bs
accepted_by_network deck named ratio lent nq blocks ratios answer =
    let w = (passed_all deck named ratio lent nq blocks ratios answer).settles in
    let d = ratios_done deck (w.time, w.results, w.done) 0 (count_some deck) in
    let s = sound_done deck (said deck) 0 d.0 d.1 refl (worked_as_said 0 deck) d.2 in
    (s.0, s.1, (by_network deck named ratio lent nq blocks ratios s.0 s.1 s.2 answer).0)

found_again : {rs qs : List Result} → Permᴰ rs qs → (i : ℕ) → i < length rs → FoundAgain i rs qs
found_again {rs} {qs} p i h =
    let m = moved p i h in
    record {
      place = m.place;
      within = m.within;
      result = m.there;
      ordinates = named_at m.place qs ∙ ap (λ (r : Result). r.held.flow) m.there ∙ sym (named_at i rs);
    }

under_ratio : (τ : Time) (bs cs : List Block) → Same (network_of bs) (network_of cs) → UnderRatio τ bs cs
under_ratio τ bs cs p =
    let same : Permᴰ (network_results τ (network_of bs)) (network_results τ (network_of cs)) = results_same τ (every_same p) in
    record {
      hydrographs = same;
      records = λ (place : ℕ). mathlib.Core.List.Permᴰ.map (record_of τ.ratio place) same;
      named = λ (i : ℕ) (h : i < length bs). found_again same i (rw (sym (length-results τ bs)) at h);
    }

-- THE OTHER DECK, whose network is as fit under each ratio: it has as many ratios, and each walk over it is done or stops by 11.
module _ (two : List ℕ) (σ : Time) (bs : List Block) (ready : (k : ℕ) → k < length (ratios_of σ) → Ready (time_at k σ) bs) where
  other_counted : (cs : List Block) → Same (network_of bs) (network_of cs) → said two ≡ Sound σ cs → ratio_count two ≡ length (ratios_of σ)
  other_counted [] p sound = absurd (omega (arith, (ready_same (time_at 0 σ) bs [] p (ready 0 (some_ratio σ))).single))
  other_counted (c ∷ cs) p sound = count-said two σ c cs sound

  module _ (cs : List Block) (p : Same (network_of bs) (network_of cs)) (sound : said two ≡ Sound σ cs) where
    other_ends : (k : ℕ) → k < length (ratios_of σ)
        → ((worked_under (Only k) two ≡ Done σ (network_results (time_at k σ) (network_of cs) ∷ [])) × (most_waiting cs ≤ 20))
        ⊎ ((line : ℕ) × (worked_under (Only k) two ≡ Stopped 11 line) × (20 < most_waiting cs))
    other_ends k h =
        done_or_eleven k σ cs (ratio_count two) (worked_under (Only k) two) (ready_same (time_at k σ) bs cs p (ready k h)) (rw sound at (worked_as_said k two))

    other_done : most_waiting cs ≤ 20 → worked two ≡ Done σ (all_results σ (network_of cs))
    other_done few =
        all_done two σ cs sound (other_counted cs p sound)
        (λ (k : ℕ) (h : k < length (ratios_of σ)). ⊎_elim (λ d. d.0) (λ e. absurd (omega (arith, e.2))) (other_ends k h))

    other_stops : 20 < most_waiting cs → (line : ℕ) × (worked two ≡ Stopped 11 line)
    other_stops over =
        let count = other_counted cs p sound in
        stopped_alike two 11
        (λ (k : ℕ) (h : k < ratio_count two). ⊎_elim (λ d. absurd (omega (arith, d.1))) (λ e. (e.0, e.1)) (other_ends k (omega arith)))

-- Two decks that read soundly, with the same time control, which is the same IT and the same JR, that draw the same network; the first is accepted, and the second has
-- no more than 60,000 bytes and is lent room enough. (Of the first both follow, as `accepted_by_network` says.)
pub order_does_not_matter : (one two : List ℕ) (named₁ ratio₁ named₂ ratio₂ : ℕ) (lent₁ lent₂ : Lent) (σ₁ σ₂ : Time) (bs cs : List Block) (nq blocks ratios : ℕ)
    → said one ≡ Sound σ₁ bs
    → said two ≡ Sound σ₂ cs
    → σ₁ ≡ σ₂
    → PairOff (network_of bs) (network_of cs)
    → (outcome one named₁ ratio₁ lent₁).answer ≡ Accepted nq blocks ratios
    → length two ≤ deck_size
    → Enough σ₂ cs named₂ ratio₂ lent₂
    → OrderFree σ₁ bs cs named₁ ratio₁ named₂ ratio₂ lent₁ lent₂ (outcome one named₁ ratio₁ lent₁) (outcome two named₂ ratio₂ lent₂)
order_does_not_matter one two named₁ ratio₁ named₂ ratio₂ lent₁ lent₂ σ σ₂ bs cs nq blocks ratios sound₁ sound₂ same-time pairs answer short room₂ =
    let p = off_same pairs in
    let first = by_network one named₁ ratio₁ lent₁ nq blocks ratios σ bs sound₁ answer in
    let room : Enough σ cs named₂ ratio₂ lent₂ = rw (sym same-time) at room₂ in
    let sound : said two ≡ Sound σ cs = rw (sym same-time) at sound₂ in
    record {
      defined = first.0.defined;
      blocks = same_off (every_same p);
      by-ratio = λ (r : ℕ). under_ratio (under r σ) bs cs p;
      other =
          ⊎_elim
          (λ (over : 20 < most_waiting cs).
          let stop = other_stops two σ bs first.1 cs p sound over in
          inr (record { line = stop.0; refusal = outcome_stopped two named₂ ratio₂ lent₂ {line = stop.0} short room.work stop.1; waiting = over }))
          (λ (few : most_waiting cs ≤ 20).
          let o = outcome_done two named₂ ratio₂ lent₂ (all_results σ (network_of cs)) short room (full σ cs) (other_done two σ bs first.1 cs p sound few) in
          inl (record {
            answer = rw (o, first.0.defined, (full σ cs).blocks, (full σ bs).blocks, (full σ cs).ratios, (full σ bs).ratios, as_many bs cs p);
            defined = o;
            complete = λ (r : ℕ). blocks_results (under r σ) cs;
            waiting = few;
          }))
          (below_or_not 20 (most_waiting cs));
    }
