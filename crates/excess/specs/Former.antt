-- What a sheet that was made by the former rule of loss (meaning/specs/Losses) has otherwise: in a block one interval at most, and in all no more than the initial loss.
--     never_above_former    no interval leaves more than the former rule left
--     flow_not_above        and so no flow of a basin is above the former one
--     former_at_most        all intervals together leave less by the initial loss at most
--     none_before           while no more has fallen than the initial loss, neither rule leaves anything
--     former_once-filled    behind the intervals that fill the initial loss the former rule left what is left now (Balance, once-filled)
use Rattle.std.specs.Prelude.{ℕ, zero, suc, ◌+◌, ◌-◌, ◌≤◌, ◌<◌, min, ◌≡◌, refl, List, [], ◌∷◌, ◌++◌, get_or}
use Rattle.std.proofs.Common.{sym, ap, ◌∙◌, ⊎_elim, mul-le-mul_left, arith, le-leb}
use Rattle.std.proofs.lemmas.Bool.{lt-leb}
use Rattle.sequences.specs.Choices.{below_or_not}
use Rattle.sequences.specs.Sums.{sum_to_below}
use Rattle.meaning.specs.Words.{◌≤?◌, when◌then◌else◌}
use Rattle.meaning.specs.Water.{sum_of, uniform_part, unfilled_after, excess_of, share, ordinate}
use Rattle.meaning.specs.Losses.{former_after, former_excess}
use Rattle.excess.specs.Balance.{left_of, uniform_alone}
use Rattle.excess.specs.Losses.{left_is, unfilled_is}

-- What the former rule left of an interval, with so much rain before it.
abbrev former_left : (initial uniform before rain : ℕ) → ℕ
former_left initial uniform before rain = rain - (when before + rain ≤? initial then rain else min rain uniform)

-- An interval whose rain passes what is unfilled, and one whose rain does not: what is left by the two rules, and what is still unfilled.
module _ (left still former unfilled uniform rain : ℕ) (l : left ≡ rain - unfilled - uniform) (s : still ≡ unfilled - rain) where
  filling : former ≡ rain - min rain uniform → unfilled ≤ rain → (left ≤ former) × (former + still ≤ left + unfilled)
  filling f h = (omega arith, omega arith)

  nothing : former ≡ 0 → rain ≤ unfilled → (left ≤ former) × (former + still ≤ left + unfilled)
  nothing f h = (omega arith, omega arith)

module _ (initial uniform before rain : ℕ) where
  lost_whole : before + rain ≤ initial → former_left initial uniform before rain ≡ 0
  unfolding when◌then◌else◌
  lost_whole h = rw (le-leb (before + rain) initial h) (omega arith)

  lost_then : initial < before + rain → former_left initial uniform before rain ≡ rain - min rain uniform
  unfolding when◌then◌else◌
  lost_then h = rw (lt-leb (before + rain) initial h)

  -- the two rules part by no more than the interval fills of the initial loss
  apart : (unfilled : ℕ) → unfilled ≡ initial - before
      → (left_of uniform unfilled rain ≤ former_left initial uniform before rain)
      × (former_left initial uniform before rain + unfilled_after unfilled rain ≤ left_of uniform unfilled rain + unfilled)
  apart unfilled e =
      ⊎_elim
      (λ (h : initial < before + rain). filling _ _ _ unfilled uniform rain (sym (left_is uniform unfilled rain)) (sym (unfilled_is unfilled rain)) (lost_then h) (omega arith))
      (λ (h : before + rain ≤ initial). nothing _ _ _ unfilled uniform rain (sym (left_is uniform unfilled rain)) (sym (unfilled_is unfilled rain)) (lost_whole h) (omega arith))
      (below_or_not initial (before + rain))

  -- and not at all where nothing was unfilled
  filled_before : initial ≤ before → former_left initial uniform before rain ≡ rain - uniform_part uniform rain
  filled_before h =
      ⊎_elim
      (λ (l : initial < before + rain). omega (arith, lost_then l))
      (λ (l : before + rain ≤ initial). omega (arith, lost_whole l))
      (below_or_not initial (before + rain))

module _ (initial uniform : ℕ) where
  never_above : (before unfilled : ℕ) (rains : List ℕ) → unfilled ≡ initial - before → (k : ℕ)
      → get_or (excess_of unfilled uniform rains) k 0 ≤ get_or (former_after initial uniform before rains) k 0
  never_above before unfilled [] e k = omega arith
  never_above before unfilled (rain ∷ rains) e zero = (apart initial uniform before rain unfilled e).0
  never_above before unfilled (rain ∷ rains) e (suc k) = never_above (before + rain) (unfilled_after unfilled rain) rains (omega arith) k

  at_most : (before unfilled : ℕ) (rains : List ℕ) → unfilled ≡ initial - before
      → sum_of (former_after initial uniform before rains) ≤ sum_of (excess_of unfilled uniform rains) + unfilled
  at_most before unfilled [] e = omega arith
  at_most before unfilled (rain ∷ rains) e =
      omega (arith, (apart initial uniform before rain unfilled e).1, at_most (before + rain) (unfilled_after unfilled rain) rains (omega arith))

  pub never_above_former : (rains : List ℕ) (k : ℕ) → get_or (excess_of initial uniform rains) k 0 ≤ get_or (former_excess initial uniform rains) k 0
  never_above_former rains k = never_above 0 initial rains (omega arith) k

  pub flow_not_above : (units rains : List ℕ) (i : ℕ) → ordinate units (excess_of initial uniform rains) i ≤ ordinate units (former_excess initial uniform rains) i
  flow_not_above units rains i =
      sum_to_below (share units (excess_of initial uniform rains) i) (share units (former_excess initial uniform rains) i) (i + 1)
      (λ (j : ℕ). mul-le-mul_left (get_or units j 0) (never_above_former rains (i - j)))

  pub former_at_most : (rains : List ℕ) → sum_of (former_excess initial uniform rains) ≤ sum_of (excess_of initial uniform rains) + initial
  former_at_most rains = at_most 0 initial rains (omega arith)

  none_former : (before : ℕ) (rains : List ℕ) → before + sum_of rains ≤ initial → sum_of (former_after initial uniform before rains) ≡ 0
  none_former before [] h = refl
  none_former before (rain ∷ rains) h = omega (arith, lost_whole initial uniform before rain (omega arith), none_former (before + rain) rains (omega arith))

  none_left : (unfilled : ℕ) (rains : List ℕ) → sum_of rains ≤ unfilled → sum_of (excess_of unfilled uniform rains) ≡ 0
  none_left unfilled [] h = refl
  none_left unfilled (rain ∷ rains) h = omega (arith, none_left (unfilled_after unfilled rain) rains (omega arith))

  pub none_before : (rains : List ℕ) → sum_of rains ≤ initial → (sum_of (excess_of initial uniform rains) ≡ 0) × (sum_of (former_excess initial uniform rains) ≡ 0)
  none_before rains h = (none_left initial rains h, none_former 0 rains (omega arith))

  former_filled : (before : ℕ) (rains : List ℕ) → initial ≤ before → former_after initial uniform before rains ≡ uniform_alone uniform rains
  former_filled before [] h = refl
  former_filled before (rain ∷ rains) h =
      ap (λ (x : ℕ). x ∷ former_after initial uniform (before + rain) rains) (filled_before initial uniform before rain h)
      ∙ ap (λ (l : List ℕ). (rain - uniform_part uniform rain) ∷ l) (former_filled (before + rain) rains (omega arith))

  former_behind : (before : ℕ) (first after : List ℕ) → initial ≤ before + sum_of first
      → former_after initial uniform before (first ++ after) ≡ former_after initial uniform before first ++ uniform_alone uniform after
  former_behind before [] after h = former_filled before after (omega arith)
  former_behind before (rain ∷ first) after h =
      ap (λ (l : List ℕ). former_left initial uniform before rain ∷ l) (former_behind (before + rain) first after (omega arith))

  pub former_once-filled : (first after : List ℕ) → initial ≤ sum_of first
      → former_excess initial uniform (first ++ after) ≡ former_excess initial uniform first ++ uniform_alone uniform after
  former_once-filled first after h = former_behind 0 first after (omega arith)
