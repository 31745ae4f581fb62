-- The number reader as it was before document 02, request 7. No deck is read by it: it is here for what is promised of decks that were accepted before.
use Rattle.std.specs.Prelude.{ℕ, Bool, false, ◌&&◌, List, [], ◌∷◌, ◌++◌, length}
use Prim.Native.Char.{code}
use Rattle.meaning.specs.Words.{◌=?◌, ◌≤?◌, when◌then◌else◌}
use Rattle.meaning.specs.Numbers.{Number, NoNumber, Decimal, unsigned, before_point, behind_point, all_digits, read_on}

-- A number has an optional sign, digits and at most one point, one digit at least and nine at most. Places are counted as written.
-- (A second point stays among what is behind the first, and is no digit.)
unfoldable pub former_decimal : Bool → List ℕ → Number
former_decimal minus s =
    let digits = before_point s ++ behind_point s in
    when all_digits digits && (1 ≤? length digits) && (length digits ≤? 9)
    then Decimal minus (read_on 0 digits) (length (behind_point s))
    else NoNumber

-- A blank field reads as 0.
unfoldable pub former_number : List ℕ → Number
former_number [] = Decimal false 0 0
former_number (b ∷ s) = former_decimal (b =? code "-") (unsigned (b ∷ s))
