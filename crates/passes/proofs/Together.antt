-- All ratios worked together line by line, and a walk for each ratio: the same.
--     play_both          runs worked together come to what is met first of two lots of them worked apart
--     together_apart     THE THEOREM: for a deck
use Rattle.std.specs.Prelude.{ℕ, zero, suc, ◌+◌, ◌-◌, ◌≤◌, ◌<◌, ◌≡◌, refl, Bool, true, false, List, [], ◌∷◌, ◌++◌, map, length, take, get_or}
use Rattle.std.proofs.Common.{sym, ap, ◌∙◌, inl, inr, add-one, arith, take-suc, take_all, eq-eqb, ne_eqb, le-leb, lt-ltb, le-ltb}
use Rattle.std.proofs.lemmas.List.{map-append}
use Rattle.std.proofs.lemmas.Bool.{lt-leb}
use Rattle.meaning.specs.Words.{◌<?◌, when◌then◌else◌, met, first}
use Rattle.meaning.specs.Water.{flow_limit}
use Rattle.meaning.specs.Blocks.{Time, ratios_of, Block, Held, made, overtops}
use Rattle.meaning.specs.Results.{Result, peak_of}
use Rattle.meaning.specs.Run.{taken_by, flow_refusal, Run, begun, with_result, flow_refusals, Which, Every, Only, results_of, Worked, Stopped, Done, worked_under, worked}
use Rattle.passes.specs.Scripts.{Script, Fails, Ends, Starts, Closes, script_of, stopped_unless, play, worked_plays}
use Rattle.passes.specs.Apart.{rank_of, comes_first, sooner, apart, ratio_count}
use Rattle.passes.specs.InOrder.{Past, After, Begun}
use Rattle.passes.proofs.InOrder.{deck-begun}
use Rattle.passes.specs.Together.{some_ratio, ratio-at}

if_same : {A : Type 0} (t : Bool) (a : A) → (when t then a else a) ≡ a
unfolding when◌then◌else◌
if_same true a = refl
if_same false a = refl

sooner_same : (number line : ℕ) → sooner (Stopped number line) (Stopped number line) ≡ Stopped number line
sooner_same number line = if_same (comes_first number line number line) (Stopped number line)

-- A FLOW'S REFUSAL, 13 or 20, by its rank: on a line it comes before what stands past it.
abbrev OfFlow : ℕ → Type 0
OfFlow flow = rank_of flow ≡ 13

first_past : (flow line number line' : ℕ) → OfFlow flow → 0 < line → Past line number line' → (comes_first flow line number line' ≡ true) × (comes_first number line' flow line ≡ false)
unfolding comes_first when◌then◌else◌
first_past flow line number line' r h (inl z) =
    let a : line ≡ line' → ⊥ = λ e. omega arith in
    let b : line' ≡ line → ⊥ = λ e. omega arith in
    let c : line ≡ 0 → ⊥ = λ e. omega arith in
    (rw (ne_eqb line line' a, ne_eqb line 0 c, eq-eqb line' 0 z), rw (ne_eqb line' line b, eq-eqb line' 0 z))
first_past flow line number line' r h (inr (inl l)) =
    let a : line ≡ line' → ⊥ = λ e. omega arith in
    let b : line' ≡ line → ⊥ = λ e. omega arith in
    let c : line ≡ 0 → ⊥ = λ e. omega arith in
    let d : line' ≡ 0 → ⊥ = λ e. omega arith in
    let k : line ≤ line' = omega arith in
    (rw (ne_eqb line line' a, ne_eqb line 0 c, ne_eqb line' 0 d) (lt-ltb line line' l), rw (ne_eqb line' line b, ne_eqb line' 0 d, ne_eqb line 0 c) (le-ltb line' line k))
first_past flow line number line' r h (inr (inr p)) =
    let n : 13 ≤ rank_of number = omega (arith, p.1) in
    (rw (eq-eqb line line' p.0, r) (le-leb 13 (rank_of number) n), rw (eq-eqb line' line (sym p.0), r) (lt-leb (rank_of number) 13 p.1))

abbrev Behind : ℕ → Worked → Type 0
Behind line w = (flow : ℕ) → OfFlow flow → (sooner (Stopped flow line) w ≡ Stopped flow line) × (sooner w (Stopped flow line) ≡ Stopped flow line)

past_behind : (line number line' : ℕ) → 0 < line → Past line number line' → Behind line (Stopped number line')
unfolding when◌then◌else◌
past_behind line number line' h p flow r = let f = first_past flow line number line' r h p in (rw f.0, rw f.1)

-- of equal rank, so of two the first is answered
flow_same : (m n line : ℕ) → OfFlow m → OfFlow n → sooner (Stopped m line) (Stopped n line) ≡ Stopped m line
unfolding comes_first when◌then◌else◌
flow_same m n line y z = rw (eq-eqb line line refl, y, z)

-- A flow's refusal, or nothing: what the flows of runs answer where a block closes.
abbrev FlowOrNot : ℕ → Type 0
FlowOrNot zero = Unit
FlowOrNot (suc n) = OfFlow (suc n)

met_or_not : (t : Bool) (n : ℕ) → FlowOrNot n → FlowOrNot (met t n)
met_or_not true n h = h
met_or_not false n h = tt

first_or_not : (m n : ℕ) → FlowOrNot m → FlowOrNot n → FlowOrNot (first m n)
first_or_not zero n y z = z
first_or_not (suc m) n y z = y

flow_or_not : (τ : Time) (b : Block) (taken : Held) → FlowOrNot (flow_refusal τ b taken)
unfolding flow_refusal rank_of when◌then◌else◌
flow_or_not τ b taken =
    let above = flow_limit <? peak_of (made τ b taken).flow in
    first_or_not (met (overtops τ b taken) 20) (met above 13) (met_or_not (overtops τ b taken) 20 refl) (met_or_not above 13 refl)

flows_or_not : (b : Block) (runs : List Run) → FlowOrNot (flow_refusals b runs)
flows_or_not b [] = tt
flows_or_not b (run ∷ runs) =
    let taken = taken_by b run.held in
    first_or_not (flow_refusal run.time b taken) (flow_refusals b runs) (flow_or_not run.time b taken) (flows_or_not b runs)

first_assoc : (l m n : ℕ) → first (first l m) n ≡ first l (first m n)
first_assoc zero m n = refl
first_assoc (suc l) m n = refl

flows-append : (b : Block) (runs more : List Run) → flow_refusals b (runs ++ more) ≡ first (flow_refusals b runs) (flow_refusals b more)
flows-append b [] more = refl
flows-append b (run ∷ runs) more = rw (flows-append b runs more) (sym (first_assoc (flow_refusal run.time b (taken_by b run.held)) (flow_refusals b runs) (flow_refusals b more)))

results-append : (runs more : List Run) → results_of (runs ++ more) ≡ results_of runs ++ results_of more
results-append [] more = refl
results-append (run ∷ runs) more = ap (λ (rss : List (List Result)). run.results ∷ rss) (results-append runs more)

after_earlier : (τ : Time) (line line' : ℕ) (s : Script) → line < line' → After τ line' s → After τ line s
after_earlier τ line line' (Fails number k) h (inl z) = inl z
after_earlier τ line line' (Fails number k) h (inr (inl l)) = inr (inl (omega arith))
after_earlier τ line line' (Fails number k) h (inr (inr p)) = inr (inl (omega (arith, p.0)))
after_earlier τ line line' (Ends σ) h a = a
after_earlier τ line line' (Starts σ s) h a = absurd a
after_earlier τ line line' (Closes b k s) h a = (omega (arith, a.0), a.1)

stopped_behind : (number line line' : ℕ) (w : Worked) → 0 < line → line < line' → Behind line w → Behind line (stopped_unless number line' w)
stopped_behind zero line line' w h l b = b
stopped_behind (suc number) line line' w h l b = past_behind line (suc number) line' h (inr (inl l))

-- What becomes of any runs along the rest of a script is not met before a flow's refusal at the line behind which it stands.
play-behind : (τ : Time) (which : Which) (runs : List Run) (line : ℕ) (s : Script) → 0 < line → After τ line s → Behind line (play which runs s)
play-behind τ which runs line (Fails number line') h a = past_behind line number line' h a
play-behind τ which runs line (Ends σ) h a = λ (flow : ℕ) r. (refl, refl)
play-behind τ which runs line (Starts σ s) h a = absurd a
play-behind τ which runs line (Closes b line' s) h a =
    let after = map (with_result b) runs in
    stopped_behind (flow_refusals b runs) line line' (play which after s) h a.0 (play-behind τ which after line s h (after_earlier τ line line' s a.0 a.1))

-- One closing line: a flow's refusal of the one lot or of the other, or of neither.
both_stop : (m n line : ℕ) {w : Worked} (v u : Worked) → FlowOrNot m → FlowOrNot n → w ≡ sooner v u → Behind line v → Behind line u
    → stopped_unless (first m n) line w ≡ sooner (stopped_unless m line v) (stopped_unless n line u)
both_stop zero zero line v u y z e behind later = e
both_stop zero (suc n) line v u y z e behind later = sym (behind (suc n) z).1
both_stop (suc m) zero line v u y z e behind later = sym (later (suc m) y).0
both_stop (suc m) (suc n) line v u y z e behind later = sym (flow_same (suc m) (suc n) line y z)

-- TWO LOTS OF RUNS. Which ratios were chosen matters only where a script starts.
module _ (τ : Time) (which₁ which₂ which₃ : Which) where
  play_both : (runs more : List Run) (line : ℕ) (s : Script) → After τ line s → play which₁ (runs ++ more) s ≡ sooner (play which₂ runs s) (play which₃ more s)
  play_both runs more line (Fails number line') a = sym (sooner_same number line')
  play_both runs more line (Ends σ) a = ap (Done σ) (results-append runs more)
  play_both runs more line (Starts σ s) a = absurd a
  play_both runs more line (Closes b line' s) a =
      let p : 0 < line' = omega (arith, a.0) in
      rw (flows-append b runs more, map-append (with_result b) runs more)
      (both_stop (flow_refusals b runs) (flow_refusals b more) line' (play which₂ (map (with_result b) runs) s) (play which₃ (map (with_result b) more) s) (flows_or_not b runs) (flows_or_not b more)
      (play_both (map (with_result b) runs) (map (with_result b) more) line' s a.1)
      (play-behind τ which₂ (map (with_result b) runs) line' s p a.1)
      (play-behind τ which₃ (map (with_result b) more) line' s p a.1))

play_any : (τ : Time) (which which' : Which) (runs : List Run) (line : ℕ) (s : Script) → After τ line s → play which runs s ≡ play which' runs s
play_any τ which which' runs line (Fails number line') a = refl
play_any τ which which' runs line (Ends σ) a = refl
play_any τ which which' runs line (Starts σ s) a = absurd a
play_any τ which which' runs line (Closes b line' s) a =
    ap (stopped_unless (flow_refusals b runs) line') (play_any τ which which' (map (with_result b) runs) line' s a.1)

-- RATIO AFTER RATIO, along a script that starts.
module _ (deck : List ℕ) (τ : Time) (s : Script) (starts : script_of deck ≡ Starts τ s) (a : After τ 0 s) where
  abbrev all : List ℕ
  all = ratios_of τ

  abbrev runs_to : ℕ → List Run
  runs_to k = map (begun τ) (take k all)

  one_plays : (k : ℕ) → worked_under (Only k) deck ≡ play (Only k) (begun τ (get_or all k 100) ∷ []) s
  one_plays k = worked_plays (Only k) deck ∙ ap (play (Only k) []) starts ∙ ap (λ (r : ℕ). play (Only k) (begun τ r ∷ []) s) (ratio-at k τ)

  more_plays : (k : ℕ) → k < length all → play Every (runs_to (suc k)) s ≡ sooner (play Every (runs_to k) s) (worked_under (Only k) deck)
  more_plays k h =
      rw (take-suc all k 100 h, map-append (begun τ) (take k all) (get_or all k 100 ∷ []), one_plays k)
      (play_both τ Every Every (Only k) (runs_to k) (begun τ (get_or all k 100) ∷ []) 0 s a)

  walks_on : (k left : ℕ) (found : Worked) → found ≡ play Every (runs_to k) s → k + left ≡ length all → apart deck found k left ≡ play Every (map (begun τ) all) s
  walks_on k zero found e n = e ∙ ap (λ (rs : List ℕ). play Every (map (begun τ) rs) s) (take_all k all (omega arith))
  walks_on k (suc left) found e n =
      walks_on (k + 1) left (sooner found (worked_under (Only k) deck))
      (rw (add-one, e) (sym (more_plays k (omega arith))))
      (omega arith)

  starts_apart : (count : ℕ) → count ≡ length all → worked deck ≡ apart deck (worked_under (Only 0) deck) 1 (count - 1)
  starts_apart count e =
      let p : 0 < length all = some_ratio τ in
      let n : 1 + (count - 1) ≡ length all = omega arith in
      worked_plays Every deck ∙ ap (play Every []) starts
      ∙ sym (walks_on 1 (count - 1) (worked_under (Only 0) deck)
      (one_plays 0 ∙ play_any τ (Only 0) Every (begun τ (get_or all 0 100) ∷ []) 0 s a ∙ sym (ap (λ (rs : List ℕ). play Every (map (begun τ) rs) s) (take-suc all 0 100 p)))
      n)

by_script : (deck : List ℕ) (s : Script) (count : ℕ) → script_of deck ≡ s → Begun s count → worked deck ≡ apart deck (worked_under (Only 0) deck) 1 (count - 1)
by_script deck (Fails number line) count e b =
    let n : count - 1 ≡ 0 = omega arith in
    rw n (worked_plays Every deck ∙ ap (play Every []) e ∙ sym (worked_plays (Only 0) deck ∙ ap (play (Only 0) []) e))
by_script deck (Ends τ) count e b = absurd b
by_script deck (Starts τ s) count e b = starts_apart deck τ s e b.1 count b.0
by_script deck (Closes c line s) count e b = absurd b

pub together_apart : (deck : List ℕ) → worked deck ≡ apart deck (worked_under (Only 0) deck) 1 (ratio_count deck - 1)
together_apart deck = by_script deck (script_of deck) (ratio_count deck) refl (deck-begun deck)
