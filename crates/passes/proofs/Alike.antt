-- Walks under different ratios read the same blocks and the same time control.
--     walks_alike    two walks that come to their end have as many results and the same time control, which has as many ratios as the deck
use Rattle.std.specs.Prelude.{ℕ, zero, suc, ◌+◌, refl, List, [], ◌∷◌, length}
use Rattle.std.proofs.Math.Path.{◌≡◌, ap}
use Rattle.std.proofs.Common.{sym, ◌∙◌, arith}
use Rattle.std.proofs.Math.ListN.{length-append}
use Rattle.meaning.specs.Blocks.{Time, ratios_of, ratio_at}
use Rattle.meaning.specs.Results.{Result}
use Rattle.meaning.specs.Run.{held_in, Run, begun, with_result, flow_refusals, Which, Only, Worked, Done, worked_under}
use Rattle.passes.specs.Scripts.{Script, Fails, Ends, Starts, Closes, script_of, stopped_unless, play, worked_plays}
use Rattle.passes.specs.Apart.{ratio_count}
use Rattle.passes.specs.InOrder.{After, Begun}
use Rattle.passes.proofs.InOrder.{deck-begun}
use Rattle.passes.specs.Alike.{Alike}

abbrev closes_in : Script → ℕ
closes_in (Fails number line) = 0
closes_in (Ends τ) = 0
closes_in (Starts τ s) = 0
closes_in (Closes b line s) = suc (closes_in s)

not_stopped : (number line : ℕ) (w : Worked) (σ : Time) (rss : List (List Result)) → stopped_unless number line w ≡ Done σ rss → w ≡ Done σ rss
not_stopped zero line w σ rss e = e
not_stopped (suc number) line w σ rss e = let z : ◌≡◌ {A = ℕ} 0 1 = cc in absurd (omega arith)

module _ (which : Which) (τ : Time) where
  play-length : (run : Run) (line : ℕ) (s : Script) → After τ line s → (σ : Time) (rs : List Result) → play which (run ∷ []) s ≡ Done σ (rs ∷ [])
      → (length rs ≡ length run.results + closes_in s) × (σ ≡ τ)
  unfolding with_result
  play-length run line (Fails number line') a σ rs e = let z : ◌≡◌ {A = ℕ} 0 1 = cc in absurd (omega arith)
  play-length run line (Ends ρ) a σ rs e = let f : run.results ≡ rs = cc in (omega (arith, ap (length {A = Result}) f), cc)
  play-length run line (Starts ρ s) a σ rs e = absurd a
  play-length run line (Closes b line' s) a σ rs e =
      let i = play-length (with_result b run) line' s a.1 σ rs (not_stopped (flow_refusals b (run ∷ [])) line' (play which (with_result b run ∷ []) s) σ (rs ∷ []) e) in
      (omega (arith, i.0, length-append run.results (record { block = b; held = held_in b run } ∷ [])), i.1)

module _ (deck : List ℕ) (j k : ℕ) (σ ρ : Time) (rs qs : List Result) where
  script_alike : (s : Script) (count : ℕ) → ratio_count deck ≡ count → Begun s count → play (Only j) [] s ≡ Done σ (rs ∷ []) → play (Only k) [] s ≡ Done ρ (qs ∷ []) → Alike deck σ ρ rs qs
  script_alike (Fails number line) count n b d e = let z : ◌≡◌ {A = ℕ} 0 1 = cc in absurd (omega arith)
  script_alike (Ends τ) count n b d e = absurd b
  script_alike (Starts τ s) count n b d e =
      let x = play-length (Only j) τ (begun τ (ratio_at j τ)) 0 s b.1 σ rs d in
      let y = play-length (Only k) τ (begun τ (ratio_at k τ)) 0 s b.1 ρ qs e in
      record { blocks = omega arith; time = x.1 ∙ sym y.1; ratios = n ∙ b.0 ∙ ap (λ (υ : Time). length (ratios_of υ)) (sym x.1) }
  script_alike (Closes c line s) count n b d e = absurd b

  pub walks_alike : worked_under (Only j) deck ≡ Done σ (rs ∷ []) → worked_under (Only k) deck ≡ Done ρ (qs ∷ []) → Alike deck σ ρ rs qs
  walks_alike d e =
      script_alike (script_of deck) (ratio_count deck) refl (deck-begun deck) (sym (worked_plays (Only j) deck) ∙ d) (sym (worked_plays (Only k) deck) ∙ e)
