-- What a number that was read means, of each function that answers one; where there is none, nothing is said.
--     IsPrefixLen   how many bytes were read, no more than are lent
--     Filled        as many bytes as are lent
--     InFour        a number that four bytes hold; which four they were no contract of the kit tells
--     CaseInFour    the same of the three numbers before a case's deck
--     Kept          of a deck of that size, as many bytes as are lent for it
--     Fits          of a deck of any size that four bytes hold
--     of_number     what holds of the number that was answered
--     kept_fits     what is kept of a deck lies within what is lent
use Rattle.std.specs.Prelude.{◌≡◌, List, ℕ, ◌^◌, ◌≤◌, ◌<◌, min, length, take, Result, Ok, Err, IfOk}
use Rattle.std.proofs.Common.{subst, arith}
use Rattle.streams.specs.declared.Case.{Case}
use Rattle.streams.specs.declared.Stop.{Stop}

-- `&xs[..n]` is in bounds and has n bytes.
abbrev pub IsPrefixLen : ℕ → List ℕ → Type 0
IsPrefixLen n xs = (n ≤ length xs) × (n ≡ length (take n xs))

abbrev pub OfNumber : (ℕ → Type 0) → Result ℕ Stop → Type 0
OfNumber P next = IfOk next P

abbrev pub Filled : List ℕ → Result ℕ Stop → Type 0
Filled lent = OfNumber (λ n. n ≡ length lent)

abbrev pub InFour : Result ℕ Stop → Type 0
InFour = OfNumber (λ n. n < 256 ^ 4)

pub record InFourEach (c : Case) : Type 0 where
  pub named : c.named < 256 ^ 4
  pub ratio : c.ratio < 256 ^ 4
  pub size : c.size < 256 ^ 4

abbrev pub CaseInFour : Result Case Stop → Type 0
CaseInFour next = IfOk next InFourEach

abbrev pub Kept : ℕ → List ℕ → Result ℕ Stop → Type 0
Kept size lent = OfNumber (λ n. n ≡ min size (length lent))

abbrev pub Fits : List ℕ → Result ℕ Stop → Type 0
Fits lent = OfNumber (λ n. n ≤ length lent)

pub of_number : (P : ℕ → Type 0) {n : ℕ} {next : Result ℕ Stop} → next ≡ Ok n → OfNumber P next → P n
of_number P told p = subst (OfNumber P) told p

pub kept_fits : (size : ℕ) (lent : List ℕ) (next : Result ℕ Stop) → Kept size lent next → Fits lent next
kept_fits size lent (Ok n) kept = omega arith
kept_fits size lent (Err stop) kept = tt
