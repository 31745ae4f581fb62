-- The walk over a deck's lines, from event to event: what each answers, and where the walk goes on.
use Rattle.std.specs.Prelude.{ℕ, zero, suc, ◌+◌, ◌≤◌, ◌<◌, ◌≡◌, refl, List}
use Rattle.std.proofs.Common.{ap, ◌∙◌, le-leb, eq-eqb, ne_eqb}
use Rattle.std.proofs.lemmas.Bool.{lt-leb}
use Rattle.meaning.specs.Words.{first}
use Rattle.meaning.specs.Blocks.{Time}
use Rattle.meaning.specs.Run.{Reading, Refuse, Open, End, Which, Worked, Standing, open_refusal, closed, one_more, results_of, Stopped, Done, Stop, Next, step_unless, many_refusal, end_refusal, and_then, walk, most_blocks}
use Rattle.events.specs.NextEvent.{Found, Missing, Met, next_event, work_found, walk-read}

module _ (which : Which) (ls : List (List ℕ)) (r : Reading) (s : Standing) (n : ℕ) where
  found-walk : (f : Found) → next_event ls r n ≡ f → walk which ls r s n ≡ work_found which f s
  found-walk f e = walk-read which ls r s n ∙ ap (λ (g : Found). work_found which g s) e

  pub walk-missing : (q : Reading) (last : ℕ) → next_event ls r n ≡ Missing q last → walk which ls r s n ≡ Stopped 16 0
  walk-missing q last e = found-walk (Missing q last) e

  pub walk_refused : (number : ℕ) (q : Reading) (line : ℕ) (rest : List (List ℕ)) → next_event ls r n ≡ Met (Refuse number) q line rest → walk which ls r s n ≡ Stopped number line
  walk_refused number q line rest e = found-walk (Met (Refuse number) q line rest) e

  abbrev on : List (List ℕ) → ℕ → Reading → Standing → Worked
  on rest line r' s' = walk which rest r' s' (line + 1)

  -- KK
  module _ (next q : Reading) (line : ℕ) (rest : List (List ℕ)) (e : next_event ls r n ≡ Met (Open next) q line rest) where
    opened : walk which ls r s n ≡ and_then (step_unless (first (open_refusal q s) (many_refusal s.blocks)) line (Next next (one_more which q (closed q s)))) (on rest line)
    opened = found-walk (Met (Open next) q line rest) e

    pub open_refused : (number : ℕ) → open_refusal q s ≡ number → (number ≡ 0 → ⊥) → walk which ls r s n ≡ Stopped number line
    open_refused zero z some = absurd (some refl)
    open_refused (suc number) z some = opened ∙ rw z

    pub open_too_many : open_refusal q s ≡ 0 → most_blocks ≤ s.blocks → walk which ls r s n ≡ Stopped 14 line
    open_too_many z h = opened ∙ rw (z, le-leb most_blocks s.blocks h)

    pub open_goes : open_refusal q s ≡ 0 → s.blocks < most_blocks → walk which ls r s n ≡ walk which rest next (one_more which q (closed q s)) (line + 1)
    open_goes z h = opened ∙ rw (z, lt-leb most_blocks s.blocks h)

  -- ZZ
  module _ (τ : Time) (q : Reading) (line : ℕ) (rest : List (List ℕ)) (e : next_event ls r n ≡ Met (End τ) q line rest) where
    ended : walk which ls r s n ≡ and_then (step_unless (first (open_refusal q s) (end_refusal (closed q s).waiting)) line (Stop (Done τ (results_of (closed q s).runs)))) (on rest line)
    ended = found-walk (Met (End τ) q line rest) e

    pub end_refused : (number : ℕ) → open_refusal q s ≡ number → (number ≡ 0 → ⊥) → walk which ls r s n ≡ Stopped number line
    end_refused zero z some = absurd (some refl)
    end_refused (suc number) z some = ended ∙ rw z

    pub end_not_one : open_refusal q s ≡ 0 → ((closed q s).waiting ≡ 1 → ⊥) → walk which ls r s n ≡ Stopped 15 line
    end_not_one z h = ended ∙ rw (z, ne_eqb (closed q s).waiting 1 h)

    pub end_done : open_refusal q s ≡ 0 → (closed q s).waiting ≡ 1 → walk which ls r s n ≡ Done τ (results_of (closed q s).runs)
    end_done z h = ended ∙ rw (z, eq-eqb (closed q s).waiting 1 h)
