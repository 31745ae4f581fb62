-- The ways through the meaning of a run, one law for each.
--     refused-size    the sizes alone refuse it, before the deck is read
--     listed_of        the ratios that it lists, if it is sound
--     settles         else it is what the work on the deck comes to; stopped: where that is a refusal
use Prim.Native.Nat.{ℕ, zero, suc}
use Rattle.std.specs.Prelude.{◌≡◌, Bool}
use Rattle.std.proofs.Math.Path.{refl}
use Rattle.std.proofs.Common.{sym, ◌∙◌, arith}
use Rattle.std.proofs.Math.Bool.{true, false}
use mathlib.Core.List.{List, []}
use Rattle.std.proofs.Math.ListN.{length}
use Rattle.meaning.specs.Words.{◌<?◌, when◌then◌else◌, met, first}
use Rattle.meaning.specs.Run.{Worked, Stopped, Done, Outcome, worked, Lent, refused, settled, outcome, work_size, deck_size}
use Rattle.answers.specs.Answers.{size_refusal}

-- the ratios that a sound deck lists, in so many words of work
abbrev pub listed_in : Worked → List ℕ
listed_in (Stopped number line) = []
listed_in (Done τ rss) = τ.listed

abbrev listed_unless : ℕ → Worked → List ℕ
listed_unless zero w = listed_in w
listed_unless (suc number) w = []

unfoldable pub listed_of : List ℕ → (work : ℕ) → List ℕ
listed_of deck work = listed_unless (size_refusal work (length deck)) (worked deck)

module _ (deck : List ℕ) (work : ℕ) where
  pub listed_small : (size_refusal work (length deck) ≡ 0 → ⊥) → [] ≡ listed_of deck work
  unfolding listed_of
  listed_small h = by (size_refusal work (length deck)) h
    where
      by : (n : ℕ) → (n ≡ 0 → ⊥) → [] ≡ listed_unless n (worked deck)
      by zero some = absurd (some refl)
      by (suc n) some = refl

  pub listed_stopped : (number line : ℕ) → size_refusal work (length deck) ≡ 0 → worked deck ≡ Stopped number line → [] ≡ listed_of deck work
  unfolding listed_of
  listed_stopped number line h e = rw (h, e)

  pub listed_sized : size_refusal work (length deck) ≡ 0 → listed_in (worked deck) ≡ listed_of deck work
  unfolding listed_of
  listed_sized h = rw h

-- two tests as a chain of refusals, and as choices
module _ (lent : Lent) (o : Outcome) where
  one_is_met : (s t : Bool) → (first (met s 1) (met t 2) ≡ 0 → ⊥) → refused (first (met s 1) (met t 2)) 0 lent ≡ (when s then refused 1 0 lent else when t then refused 2 0 lent else o)
  unfolding when◌then◌else◌
  one_is_met true t h = refl
  one_is_met false true h = refl
  one_is_met false false h = absurd (h refl)

  none_is_met : (s t : Bool) → first (met s 1) (met t 2) ≡ 0 → o ≡ (when s then refused 1 0 lent else when t then refused 2 0 lent else o)
  unfolding when◌then◌else◌
  none_is_met true t h = absurd (omega arith)
  none_is_met false true h = absurd (omega arith)
  none_is_met false false h = refl

module _ (deck : List ℕ) (named ratio : ℕ) (lent : Lent) where
  pub refused-size : (size_refusal lent.work (length deck) ≡ 0 → ⊥) → refused (size_refusal lent.work (length deck)) 0 lent ≡ outcome deck named ratio lent
  unfolding outcome
  refused-size h = one_is_met lent (settled named ratio lent (worked deck)) (lent.work <? work_size) (deck_size <? length deck) h

  module _ (sized : size_refusal lent.work (length deck) ≡ 0) where
    pub settles : settled named ratio lent (worked deck) ≡ outcome deck named ratio lent
    unfolding outcome
    settles = none_is_met lent (settled named ratio lent (worked deck)) (lent.work <? work_size) (deck_size <? length deck) sized

    pub stopped : (number line : ℕ) → worked deck ≡ Stopped number line → refused number line lent ≡ outcome deck named ratio lent
    stopped number line e = rw e at settles
