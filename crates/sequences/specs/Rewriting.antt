-- A loop that goes over a list from the front and stores f i at each place i, and that looks at what it has not reached: where it starts, what a turn does and what it
-- leaves, element by element.
use Rattle.std.specs.Prelude.{ℕ, ◌+◌, ◌≤◌, ◌<◌, ◌≡◌, refl, List, length, get_or, set}
use Rattle.std.proofs.Common.{sym, ◌∙◌, ⊎_elim, arith, length-set, ext_get_or, get_or-set_same, get_or-set_other}
use Rattle.sequences.specs.Choices.{below_or_not}
use Rattle.sequences.specs.Overwriting.{untouched}

-- j places of q, which was q₀, are rewritten
pub record Rewritten (f : ℕ → ℕ) (q₀ q : List ℕ) (j : ℕ) : Type 0 where
  pub long : length q ≡ length q₀
  pub done : (i : ℕ) → i < j → get_or q i 0 ≡ f i
  pub same : (i : ℕ) → j ≤ i → get_or q i 0 ≡ get_or q₀ i 0

module _ (f : ℕ → ℕ) (q₀ : List ℕ) where
  pub rewritten_none : (j : ℕ) → j ≡ 0 → Rewritten f q₀ q₀ j
  rewritten_none j none = record { long = refl; done = λ (i : ℕ) h. absurd (omega arith); same = λ (i : ℕ) h. refl }

  pub rewritten_more : (q : List ℕ) (j v : ℕ) → Rewritten f q₀ q j → j < length q₀ → v ≡ f j → Rewritten f q₀ (set q j v) (j + 1)
  rewritten_more q j v r below is =
      record {
        long = simp length-set r.long;
        done =
            λ (i : ℕ) h.
            ⊎_elim
            (λ (before : i < j). get_or-set_other q j i v 0 (λ e. absurd (omega arith)) ∙ r.done i before)
            (λ (from : j ≤ i). (let last : i ≡ j = omega arith in rw last (get_or-set_same q j v 0 (omega (arith, r.long)) ∙ is)))
            (below_or_not i j);
        same = untouched q q₀ j v r.same;
      }

  -- what it leaves, if the rest was so before
  pub rewritten_all : (q xs : List ℕ) (j : ℕ) → Rewritten f q₀ q j → length xs ≡ length q₀ → ((i : ℕ) → i < j → i < length q₀ → f i ≡ get_or xs i 0)
      → ((i : ℕ) → j ≤ i → i < length q₀ → get_or q₀ i 0 ≡ get_or xs i 0) → q ≡ xs
  rewritten_all q xs j r long front rest =
      ext_get_or 0 q xs (r.long ∙ sym long)
      (λ (i : ℕ) h.
      ⊎_elim
      (λ (before : i < j). r.done i before ∙ front i before (omega (arith, r.long)))
      (λ (from : j ≤ i). r.same i from ∙ rest i from (omega (arith, r.long)))
      (below_or_not i j))
