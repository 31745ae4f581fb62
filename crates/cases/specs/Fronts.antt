-- What is printed, or counted, of the first few: what one more adds. And how long a number and an answer are.
--     numbers_more                one more is printed
--     left_counts                 how many words are not zero, as a count of those that pass a test
--     left-zero, left_other       one more is looked at, which is zero or not
--     number_short, counts_short, refusal_short   a number has at most 20 digits
use Rattle.std.specs.Prelude.{◌≡◌, List, [], ◌∷◌, ◌++◌, ℕ, zero, suc, ◌+◌, ◌^◌, ◌≤◌, ◌<◌, length, get_or, take, Bool, true, false, not, ◌==◌, cond, count_by, refl}
use Rattle.std.proofs.Common.{sym, ◌∙◌, append-nil, append_assoc, add-zero, add-one, arith, length-append, eq-eqb, ne_eqb}
use Rattle.std.proofs.lemmas.List.Recursion.{is_count_by}
use Rattle.meaning.specs.Words.{◌=?◌, when◌then◌else◌}
use Rattle.meaning.specs.Run.{Accepted, Refused}
use Rattle.meaning.specs.Listing.{refused_line}
use Rattle.text.specs.Digits.{whole_short}
use Rattle.cases.specs.Sizes.{answer_size, ordinate_size}
use Rattle.cases.specs.Text.{answer_line, number_at, numbers_from, left}

numbers-next : (j i : ℕ) (xs : List ℕ) → i < length xs → numbers_from j (take (suc i) xs) ≡ numbers_from j (take i xs) ++ number_at (j + i) (get_or xs i 0)
numbers-next j i [] h = absurd (omega arith)
numbers-next j zero (x ∷ xs) h = rw add-zero (append-nil (number_at j x))
numbers-next j (suc i) (x ∷ xs) h =
    let place : suc j + i ≡ j + suc i = omega arith in
    rw (numbers-next (suc j) i xs (omega arith), place) (sym (append_assoc (number_at j x) (numbers_from (suc j) (take i xs)) (number_at (j + suc i) (get_or xs i 0))))

pub numbers_more : (i : ℕ) (xs : List ℕ) → i < length xs → numbers_from 0 (take (i + 1) xs) ≡ numbers_from 0 (take i xs) ++ number_at i (get_or xs i 0)
numbers_more i xs h =
    let first : 0 + i ≡ i = omega arith in
    rw (add-one i) (rw first at (numbers-next 0 i xs h))

pub number_short : (i x : ℕ) → x < 10 ^ 20 → length (number_at i x) ≤ ordinate_size
number_short zero x h = omega (arith, whole_short 19 x h)
number_short (suc i) x h = omega (arith, whole_short 19 x h)

left-next : (i : ℕ) (xs : List ℕ) → i < length xs → left (take (suc i) xs) ≡ left (take i xs) + (when get_or xs i 0 =? 0 then 0 else 1)
left-next i [] h = absurd (omega arith)
left-next zero (x ∷ xs) h = omega arith
left-next (suc i) (x ∷ xs) h = omega (arith, left-next i xs (omega arith))

pub left-zero : (i : ℕ) (xs : List ℕ) → i < length xs → get_or xs i 0 ≡ 0 → left (take (i + 1) xs) ≡ left (take i xs)
unfolding when◌then◌else◌
left-zero i xs h e = rw (add-one i) (left-next i xs h ∙ rw (eq-eqb (get_or xs i 0) 0 e) (add-zero (left (take i xs))))

pub left_other : (i : ℕ) (xs : List ℕ) → i < length xs → 0 < get_or xs i 0 → left (take (i + 1) xs) ≡ left (take i xs) + 1
unfolding when◌then◌else◌
left_other i xs h some = rw (add-one i) (left-next i xs h ∙ rw (ne_eqb (get_or xs i 0) 0 (λ e. absurd (omega arith))))

pub left_counts : (xs : List ℕ) → left xs ≡ count_by (λ x. not (x == 0)) xs
unfolding when◌then◌else◌
left_counts xs = is_count_by left (λ x. not (x == 0)) refl more xs
  where
    more : (x : ℕ) (xs : List ℕ) → left (x ∷ xs) ≡ cond (not (x == 0)) (1 + left xs) (left xs)
    more x xs = go (x == 0)
      where
        go : (b : Bool) → (when b then 0 else 1) + left xs ≡ cond (not b) (1 + left xs) (left xs)
        go true = omega arith
        go false = refl

pub counts_short : (nq blocks ratios : ℕ) → nq < 10 ^ 20 → blocks < 10 ^ 20 → ratios < 10 ^ 20 → length (answer_line (Accepted nq blocks ratios)) ≤ answer_size
unfolding answer_line
counts_short nq blocks ratios h k l = simp length-append (omega (arith, whole_short 19 nq h, whole_short 19 blocks k, whole_short 19 ratios l))

pub refusal_short : (number at : ℕ) → number < 10 ^ 20 → at < 10 ^ 20 → length (answer_line (Refused number at)) ≤ answer_size
unfolding answer_line refused_line
refusal_short number at h k = simp length-append (omega (arith, whole_short 19 number h, whole_short 19 at k))
