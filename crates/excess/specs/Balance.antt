-- Where the rain of a block goes: loss and excess, each by its own rule.
--     loss_and_excess       loss and excess of an interval are its rain, and so are their sums (sum_of_both)
--     loss_within           so no interval loses more than its rain
--     once-filled           behind the intervals that fill the initial loss each loses the uniform loss alone
--     initial_once          all intervals together take the initial loss once: as much of it as rain falls
--     block-..              the first three, of the rain, the loss and the excess of a block
use Rattle.std.specs.Prelude.{ℕ, zero, suc, ◌+◌, ◌-◌, ◌≤◌, min, ◌≡◌, refl, List, [], ◌∷◌, ◌++◌, map, get_or}
use Rattle.std.proofs.Common.{ap, ◌∙◌, arith}
use Rattle.meaning.specs.Water.{sum_of, initial_part, uniform_part, loss_of, unfilled_after, losses_of, excess_of}
use Rattle.meaning.specs.Blocks.{Time, Block, rain, loss, excess}

-- What an interval leaves, by what is unfilled before it.
abbrev pub left_of : (uniform unfilled rain : ℕ) → ℕ
left_of uniform unfilled rain = rain - loss_of unfilled uniform rain

pub loss_and_excess : (unfilled uniform : ℕ) (rains : List ℕ) (k : ℕ)
    → get_or (losses_of unfilled uniform rains) k 0 + get_or (excess_of unfilled uniform rains) k 0 ≡ get_or rains k 0
loss_and_excess unfilled uniform [] k = refl
loss_and_excess unfilled uniform (r ∷ rains) zero = omega arith
loss_and_excess unfilled uniform (r ∷ rains) (suc k) = loss_and_excess (unfilled_after unfilled r) uniform rains k

pub loss_within : (unfilled uniform : ℕ) (rains : List ℕ) (k : ℕ) → get_or (losses_of unfilled uniform rains) k 0 ≤ get_or rains k 0
loss_within unfilled uniform rains k = omega (arith, loss_and_excess unfilled uniform rains k)

pub sum_of_both : (unfilled uniform : ℕ) (rains : List ℕ) → sum_of (losses_of unfilled uniform rains) + sum_of (excess_of unfilled uniform rains) ≡ sum_of rains
sum_of_both unfilled uniform [] = refl
sum_of_both unfilled uniform (r ∷ rains) = omega (arith, sum_of_both (unfilled_after unfilled r) uniform rains)

-- Intervals that lose the uniform loss alone.
abbrev pub uniform_alone : ℕ → List ℕ → List ℕ
uniform_alone uniform rains = map (λ (r : ℕ). r - uniform_part uniform r) rains

none_taken : (uniform rain : ℕ) → left_of uniform 0 rain ≡ rain - uniform_part uniform rain
none_taken uniform rain = omega arith

none_unfilled : (uniform : ℕ) (rains : List ℕ) → excess_of 0 uniform rains ≡ uniform_alone uniform rains
none_unfilled uniform [] = refl
none_unfilled uniform (r ∷ rains) =
    let none : unfilled_after 0 r ≡ 0 = omega arith in
    rw none (ap (λ (x : ℕ). x ∷ excess_of 0 uniform rains) (none_taken uniform r) ∙ ap (λ (l : List ℕ). (r - uniform_part uniform r) ∷ l) (none_unfilled uniform rains))

pub once-filled : (unfilled uniform : ℕ) (before after : List ℕ) → unfilled ≤ sum_of before
    → excess_of unfilled uniform (before ++ after) ≡ excess_of unfilled uniform before ++ uniform_alone uniform after
once-filled unfilled uniform [] after filled = let none : unfilled ≡ 0 = omega arith in rw none (none_unfilled uniform after)
once-filled unfilled uniform (r ∷ before) after filled =
    ap (λ (l : List ℕ). left_of uniform unfilled r ∷ l) (once-filled (unfilled_after unfilled r) uniform before after (omega arith))

-- What each interval takes for the initial loss.
abbrev pub initial_parts : ℕ → List ℕ → List ℕ
initial_parts unfilled [] = []
initial_parts unfilled (r ∷ rains) = initial_part unfilled r ∷ initial_parts (unfilled_after unfilled r) rains

pub initial_once : (unfilled : ℕ) (rains : List ℕ) → sum_of (initial_parts unfilled rains) ≡ min unfilled (sum_of rains)
initial_once unfilled [] = omega arith
initial_once unfilled (r ∷ rains) = omega (arith, initial_once (unfilled_after unfilled r) rains)

module _ (τ : Time) (b : Block) where
  pub block-loss_within : (k : ℕ) → get_or (loss τ b) k 0 ≤ get_or (rain τ b) k 0
  unfolding loss
  block-loss_within k = loss_within _ _ (rain τ b) k

  pub block-loss_and_excess : (k : ℕ) → get_or (loss τ b) k 0 + get_or (excess τ b) k 0 ≡ get_or (rain τ b) k 0
  unfolding loss excess
  block-loss_and_excess k = loss_and_excess _ _ (rain τ b) k

  pub block_sums : sum_of (loss τ b) + sum_of (excess τ b) ≡ sum_of (rain τ b)
  unfolding loss excess
  block_sums = sum_of_both _ _ (rain τ b)
