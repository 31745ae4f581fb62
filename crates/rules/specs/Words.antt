-- A word read byte by byte: what is left of it, behind the number of the bytes before, comes to the same word.
--     spelled                             the bytes left, behind a number
--     spelled_more, -blank, -end          one byte more; a blank; none left
--     too_long, fits                      the whole word
use Rattle.std.specs.Prelude.{ℕ, ◌+◌, ◌*◌, ◌≤◌, ◌<◌, ◌≡◌, List, length, drop, get_or}
use Rattle.std.proofs.Common.{add-one, drop_of_length-le}
use borrow.Author.Tests.{eq-eqb, ne_eqb, lt-ltb, le-ltb}
use Rattle.std.proofs.Math.Seq.{drop-cons}
use Rattle.meaning.specs.Words.{when◌then◌else◌}
use Rattle.meaning.specs.Lines.{blank}
use Rattle.meaning.specs.Numbers.{Value, Malformed, Units}
use Rattle.meaning.specs.Records.{any_blank, word_on, word_in}

unfoldable pub spelled : ℕ → List ℕ → Value
spelled v s = when any_blank s then Malformed else Units (word_on v s)

module _ (s : List ℕ) (i v : ℕ) where
  module _ (h : i < length s) where
    pub spelled_more : (n : ℕ) → n ≡ v * 256 + get_or s i 0 → (get_or s i 0 ≡ blank → ⊥) → spelled n (drop (i + 1) s) ≡ spelled v (drop i s)
    unfolding spelled any_blank
    spelled_more n e other = rw (e, drop-cons s i 0 h, ne_eqb (get_or s i 0) blank other, add-one)

    pub spelled-blank : get_or s i 0 ≡ blank → Malformed ≡ spelled v (drop i s)
    unfolding spelled any_blank when◌then◌else◌
    spelled-blank e = rw (drop-cons s i 0 h, eq-eqb (get_or s i 0) blank e)

  pub spelled-end : length s ≤ i → Units v ≡ spelled v (drop i s)
  unfolding spelled any_blank when◌then◌else◌
  spelled-end h = rw (drop_of_length-le s h)

module _ (most : ℕ) (f : List ℕ) where
  pub too_long : most < length f → Malformed ≡ word_in most f
  unfolding word_in when◌then◌else◌
  too_long h = rw (lt-ltb most (length f) h)

  pub fits : length f ≤ most → spelled 0 f ≡ word_in most f
  unfolding word_in spelled
  fits h = rw (le-ltb most (length f) h)
