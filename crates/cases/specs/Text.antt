-- What is printed of a case, from what a run leaves: a line for the answer, one for the ordinates, one for the record bytes, one for the count of work words that are
-- not zero, and one that is '--'.
--     an_outcome, a_refusal     two of them as they are printed
use Rattle.std.specs.Prelude.{ℕ, zero, suc, ◌+◌, ◌≡◌, refl, List, [], ◌∷◌, ◌++◌}
use Rattle.meaning.specs.Words.{◌=?◌, when◌then◌else◌, bytes}
use Rattle.meaning.specs.Lines.{blank}
use Rattle.meaning.specs.Run.{Answer, Accepted, Refused, Outcome}
use Rattle.meaning.specs.Listing.{whole, refused_line}
use Rattle.text.specs.Line.{line}
use Rattle.hexes.specs.Hex.{hex_all}

unfoldable pub answer_line : Answer → List ℕ
answer_line (Accepted nq blocks ratios) = line (whole nq ++ (blank ∷ whole blocks) ++ (blank ∷ whole ratios))
answer_line (Refused number at) = refused_line number at

-- Numbers in decimal, a blank before each but the first.
abbrev pub number_at : ℕ → ℕ → List ℕ
number_at zero x = whole x
number_at (suc i) x = blank ∷ whole x

abbrev pub numbers_from : ℕ → List ℕ → List ℕ
numbers_from i [] = []
numbers_from i (x ∷ xs) = number_at i x ++ numbers_from (suc i) xs

-- How many words are not zero.
abbrev pub left : List ℕ → ℕ
left [] = 0
left (x ∷ xs) = (when x =? 0 then 0 else 1) + left xs

-- Their count, and the line behind a case.
unfoldable pub left_lines : List ℕ → List ℕ
left_lines work = line (whole (left work)) ++ line (bytes "--")

unfoldable pub case_text : Outcome → List ℕ
case_text o =
    answer_line o.answer
    ++ line (numbers_from 0 o.ordinates)
    ++ line (hex_all o.records)
    ++ left_lines o.work

an_outcome : case_text (record { answer = Accepted 4 2 3; work = 0 ∷ 7 ∷ 0 ∷ []; ordinates = 0 ∷ 120 ∷ 48 ∷ []; records = 0 ∷ 85 ∷ 250 ∷ [] })
    ≡ line (bytes "4 2 3") ++ line (bytes "0 120 48") ++ line (bytes "0055fa") ++ line (bytes "1") ++ line (bytes "--")
unfolding case_text left_lines answer_line whole when◌then◌else◌
an_outcome = refl

a_refusal : case_text (record { answer = Refused 17 0; work = []; ordinates = []; records = [] })
    ≡ line (bytes "REFUSED 17 0") ++ line [] ++ line [] ++ line (bytes "0") ++ line (bytes "--")
unfolding case_text left_lines answer_line refused_line whole when◌then◌else◌
a_refusal = refl
