-- Hydrographs added, ordinate by ordinate: in any order and in any grouping.
use Rattle.std.specs.Prelude.{ℕ, ◌≡◌, refl, List, [], ◌∷◌}
use Rattle.std.proofs.Common.{sym, ap, ◌∙◌, add_comm, add_assoc}
use Rattle.meaning.specs.Water.{plus}

pub plus_none : (xs : List ℕ) → plus xs [] ≡ xs
plus_none [] = refl
plus_none (x ∷ xs) = refl

pub plus_comm : (xs ys : List ℕ) → plus xs ys ≡ plus ys xs
plus_comm [] ys = sym (plus_none ys)
plus_comm (x ∷ xs) [] = refl
plus_comm (x ∷ xs) (y ∷ ys) = rw (add_comm x y, plus_comm xs ys)

pub plus_assoc : (xs ys zs : List ℕ) → plus (plus xs ys) zs ≡ plus xs (plus ys zs)
plus_assoc [] ys zs = refl
plus_assoc (x ∷ xs) [] zs = refl
plus_assoc (x ∷ xs) (y ∷ ys) [] = refl
plus_assoc (x ∷ xs) (y ∷ ys) (z ∷ zs) = rw (add_assoc x y z, plus_assoc xs ys zs)

pub plus_turn : (xs ys zs : List ℕ) → plus xs (plus ys zs) ≡ plus ys (plus xs zs)
plus_turn xs ys zs = sym (plus_assoc xs ys zs) ∙ ap (λ (l : List ℕ). plus l zs) (plus_comm xs ys) ∙ plus_assoc ys xs zs
