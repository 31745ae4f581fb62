-- A line: a text, and the line's end.
--     length-told   how long the line of a word and a number is; told_short: at most so long
use Rattle.std.specs.Prelude.{ℕ, ◌+◌, ◌^◌, ◌≤◌, ◌<◌, ◌≡◌, List, [], ◌∷◌, ◌++◌, length}
use Rattle.std.proofs.Common.{arith, length-append}
use Rattle.meaning.specs.Lines.{lf}
use Rattle.meaning.specs.Listing.{whole}
use Rattle.text.specs.Digits.{whole_short}

abbrev pub line : List ℕ → List ℕ
line s = s ++ (lf ∷ [])

module _ (word : List ℕ) (x : ℕ) where
  pub length-told : length (line (word ++ whole x)) ≡ length word + length (whole x) + 1
  length-told = simp length-append

  pub told_short : x < 10 ^ 20 → length (line (word ++ whole x)) ≤ length word + 21
  told_short h = omega (arith, length-told, whole_short 19 x h)
