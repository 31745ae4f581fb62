-- What one record of the new form is refused for, by its tests.
--     filled_more      padding in two parts
--     number_of, fault_is      the number of a refusal, and 0 for none
--     number-told, fault-told  a refusal is told by its number
--     fault_of          2, or 3, or none
--     fault_front, fault_tail, fault_other, fault_none     by the tests
use Rattle.std.specs.Prelude.{ℕ, ◌≡◌, refl, Bool, true, false, not, ◌||◌, List, [], ◌∷◌, ◌++◌, get_or, Option, Some, None}
use Rattle.std.proofs.Common.{sym, ap, ◌∙◌, arith}
use Rattle.std.proofs.Math.Bool.{or_assoc}
use Rattle.meaning.specs.Words.{◌=?◌, met, first}
use Rattle.meaning.specs.Moving.{old_padding, new_padding, filled, other_ratio}
use Rattle.forms.specs.Tests.{tail_padding}
use Rattle.forms.specs.declared.Fault.{Fault}
use Rattle.forms.specs.declared.Fault.TheVariants.{Length, Padding, Ratio, Room}

abbrev pub number_of : Fault → ℕ
number_of Length = 1
number_of Padding = 2
number_of Ratio = 3
number_of Room = 4

abbrev pub fault_is : Option Fault → ℕ
fault_is None = 0
fault_is (Some fault) = number_of fault

pub number-told : (x y : Fault) → number_of x ≡ number_of y → x ≡ y
number-told Length Length e = refl
number-told Length Padding e = absurd (omega arith)
number-told Length Ratio e = absurd (omega arith)
number-told Length Room e = absurd (omega arith)
number-told Padding Length e = absurd (omega arith)
number-told Padding Padding e = refl
number-told Padding Ratio e = absurd (omega arith)
number-told Padding Room e = absurd (omega arith)
number-told Ratio Length e = absurd (omega arith)
number-told Ratio Padding e = absurd (omega arith)
number-told Ratio Ratio e = refl
number-told Ratio Room e = absurd (omega arith)
number-told Room Length e = absurd (omega arith)
number-told Room Padding e = absurd (omega arith)
number-told Room Ratio e = absurd (omega arith)
number-told Room Room e = refl

some_told : (x : Fault) → number_of x ≡ 0 → ⊥
some_told Length e = omega arith
some_told Padding e = omega arith
some_told Ratio e = omega arith
some_told Room e = omega arith

pub fault-told : (x y : Option Fault) → fault_is x ≡ fault_is y → x ≡ y
fault-told None None e = refl
fault-told None (Some y) e = absurd (some_told y (sym e))
fault-told (Some x) None e = absurd (some_told x e)
fault-told (Some x) (Some y) e = ap Some (number-told x y e)

pub filled_more : (ps qs : List ℕ) (r : List ℕ) → filled (ps ++ qs) r ≡ (filled ps r || filled qs r)
filled_more [] qs r = refl
filled_more (p ∷ ps) qs r = rw (filled_more ps qs r) (sym (or_assoc (not (get_or r p 0 =? 0)) (filled ps r) (filled qs r)))

abbrev pub fault_of : List ℕ → ℕ
fault_of r = first (met (filled new_padding r) 2) (met (other_ratio r) 3)

-- one record, by its three tests
module _ (r : List ℕ) where
  padding_apart : filled new_padding r ≡ (filled old_padding r || filled tail_padding r)
  padding_apart = filled_more old_padding tail_padding r

  by_tests : (a b o : Bool) → filled old_padding r ≡ a → filled tail_padding r ≡ b → other_ratio r ≡ o → first (met (a || b) 2) (met o 3) ≡ fault_of r
  by_tests a b o e f g =
      let both : filled new_padding r ≡ (a || b) = padding_apart ∙ rw (e, f) in
      sym (ap (λ (t : Bool). first (met t 2) (met (other_ratio r) 3)) both ∙ ap (λ (t : Bool). first (met (a || b) 2) (met t 3)) g)

  pub fault_front : filled old_padding r ≡ true → 2 ≡ fault_of r
  fault_front e = by_tests true (filled tail_padding r) (other_ratio r) e refl refl

  pub fault_tail : filled old_padding r ≡ false → filled tail_padding r ≡ true → 2 ≡ fault_of r
  fault_tail e f = by_tests false true (other_ratio r) e f refl

  pub fault_other : filled old_padding r ≡ false → filled tail_padding r ≡ false → other_ratio r ≡ true → 3 ≡ fault_of r
  fault_other e f g = by_tests false false true e f g

  pub fault_none : filled old_padding r ≡ false → filled tail_padding r ≡ false → other_ratio r ≡ false → 0 ≡ fault_of r
  fault_none e f g = by_tests false false false e f g
