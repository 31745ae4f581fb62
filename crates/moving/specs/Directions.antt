-- What the loops ask of a direction, beside its `Way`.
--     new_fault                 what one record of the old form is refused for
--     Judges                    how what a record is refused for, and what the records behind it are, come together
--     Counts                    what is moved of any file can be counted
--     or_first                  of two refusals the first; padding-told: a refusal by padding is known by its number
--     judged_stops, judged_goes, judged_ends     the pass over a file's records, where one is split off
--     new_judges, old_judges, new_counts, old_counts     the two directions
use Rattle.std.specs.Prelude.{ℕ, length, ◌*◌, ◌/◌, ◌^◌, ◌<◌, ◌≡◌, refl, Bool, true, false, ◌||◌, List, [], ◌∷◌, Option, Some, None}
use Rattle.std.proofs.Common.{arith, sym, ap, ◌∙◌}
use Rattle.std.specs.List.{IsSplitAt}
use Rattle.meaning.specs.Words.{met, first}
use Rattle.meaning.specs.Results.{record_size, old_record_size}
use Rattle.meaning.specs.Moving.{old_padding, new_padding, records_in, filled, any_filled, other_ratio, any_other}
use Rattle.std.specs.Option.{option_or}
use Rattle.forms.specs.declared.Fault.{Fault}
use Rattle.forms.specs.declared.Fault.TheVariants.{Length, Padding, Ratio, Room}
use Rattle.forms.specs.Fault.{fault_of, fault_is, fault-told}
use Rattle.moving.specs.Faults.{new_faults, old_faults}
use Rattle.moving.specs.Records.{first_record, no_record}

abbrev pub new_fault : List ℕ → ℕ
new_fault r = met (filled old_padding r) 2

pub record Judges (fault : List ℕ → ℕ) (faults : List (List ℕ) → ℕ) : Type 0 where
  pub none : faults [] ≡ 0
  pub stops : (r : List ℕ) (rs : List (List ℕ)) → fault r ≡ 2 → faults (r ∷ rs) ≡ 2
  pub goes : (r : List ℕ) (rs : List (List ℕ)) (found : ℕ) → (fault r ≡ 2 → ⊥) → first (faults (r ∷ rs)) found ≡ first (faults rs) (first (fault r) found)

pub record Counts (size to : ℕ) : Type 0 where
  pub counts : (n : ℕ) → n < 2 ^ 63 → n / size * to < 2 ^ 64

new_none : new_faults [] ≡ 0
unfolding any_filled
new_none = refl

new_stops : (r : List ℕ) (rs : List (List ℕ)) → new_fault r ≡ 2 → new_faults (r ∷ rs) ≡ 2
unfolding any_filled
new_stops r rs e = go (filled old_padding r) e
  where
    go : (f : Bool) → met f 2 ≡ 2 → met (f || any_filled old_padding rs) 2 ≡ 2
    go true h = refl
    go false h = absurd (omega arith)

new_goes : (r : List ℕ) (rs : List (List ℕ)) (found : ℕ) → (new_fault r ≡ 2 → ⊥) → first (new_faults (r ∷ rs)) found ≡ first (new_faults rs) (first (new_fault r) found)
unfolding any_filled
new_goes r rs found e = go (filled old_padding r) e
  where
    go : (f : Bool) → (met f 2 ≡ 2 → ⊥) → first (met (f || any_filled old_padding rs) 2) found ≡ first (met (any_filled old_padding rs) 2) (first (met f 2) found)
    go true h = absurd (h refl)
    go false h = refl

old_none : old_faults [] ≡ 0
unfolding any_filled any_other
old_none = refl

old_stops : (r : List ℕ) (rs : List (List ℕ)) → fault_of r ≡ 2 → old_faults (r ∷ rs) ≡ 2
unfolding any_filled any_other
old_stops r rs e = go (filled new_padding r) (other_ratio r) e
  where
    go : (f o : Bool) → first (met f 2) (met o 3) ≡ 2 → first (met (f || any_filled new_padding rs) 2) (met (o || any_other rs) 3) ≡ 2
    go true o h = refl
    go false true h = absurd (omega arith)
    go false false h = absurd (omega arith)

old_goes : (r : List ℕ) (rs : List (List ℕ)) (found : ℕ) → (fault_of r ≡ 2 → ⊥) → first (old_faults (r ∷ rs)) found ≡ first (old_faults rs) (first (fault_of r) found)
unfolding any_filled any_other
old_goes r rs found e = go (filled new_padding r) (other_ratio r) (any_filled new_padding rs) (any_other rs) e
  where
    go : (f o g p : Bool) → (first (met f 2) (met o 3) ≡ 2 → ⊥)
        → first (first (met (f || g) 2) (met (o || p) 3)) found
        ≡ first (first (met g 2) (met p 3)) (first (first (met f 2) (met o 3)) found)
    go true o g p h = absurd (h refl)
    go false true true p h = refl
    go false true false true h = refl
    go false true false false h = refl
    go false false true p h = refl
    go false false false true h = refl
    go false false false false h = refl

pub new_judges : Judges new_fault new_faults
new_judges = record { none = new_none; stops = new_stops; goes = new_goes }

pub old_judges : Judges fault_of old_faults
old_judges = record { none = old_none; stops = old_stops; goes = old_goes }

pub new_counts : Counts old_record_size record_size
new_counts = record { counts = λ (n : ℕ) (h : n < 2 ^ 63). omega arith }

pub old_counts : Counts record_size old_record_size
old_counts = record { counts = λ (n : ℕ) (h : n < 2 ^ 63). omega arith }

-- of two refusals the first, as `or` has it
pub or_first : (x y : Option Fault) → fault_is (option_or x y) ≡ first (fault_is x) (fault_is y)
or_first None y = refl
or_first (Some Length) y = refl
or_first (Some Padding) y = refl
or_first (Some Ratio) y = refl
or_first (Some Room) y = refl

-- a refusal by padding is known by its number
pub padding-told : (x : Option Fault) → fault_is x ≡ 2 → x ≡ Some Padding
padding-told x e = fault-told x (Some Padding) e

module _ {fault : List ℕ → ℕ} {faults : List (List ℕ) → ℕ} (j : Judges fault faults) (size : ℕ) (some : 0 < size) (rest : List ℕ) (found : ℕ) where
  pub judged_ends : length rest < size → first (faults (records_in size rest)) found ≡ found
  judged_ends short =
      ap (λ (rs : List (List ℕ)). first (faults rs) found) (no_record size rest short) ∙ ap (λ (n : ℕ). first n found) j.none

  module _ {r behind : List ℕ} (at : IsSplitAt rest size r behind) where
    one_more : records_in size rest ≡ r ∷ records_in size behind
    one_more = first_record size rest some at.0 ∙ rw (sym at.1, sym at.2)

    pub judged_stops : fault r ≡ 2 → first (faults (records_in size rest)) found ≡ 2
    judged_stops two =
        ap (λ (rs : List (List ℕ)). first (faults rs) found) one_more ∙ ap (λ (n : ℕ). first n found) (j.stops r (records_in size behind) two)

    pub judged_goes : (fault r ≡ 2 → ⊥) → first (faults (records_in size rest)) found ≡ first (faults (records_in size behind)) (first (fault r) found)
    judged_goes other = ap (λ (rs : List (List ℕ)). first (faults rs) found) one_more ∙ j.goes r (records_in size behind) found other
