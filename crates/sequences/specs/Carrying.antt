-- A list made from a list, element by element, with a number carried from each element to the next: a running sum, or what is still unfilled of a loss.
--     carried           `out` of what is carried and of the element, and `on` what is carried then
--     length-carried    there are as many
--     carried-dry       where 0 makes 0, zeros at the end make zeros at the end
--     Carrying          a loop that overwrites a list so: its first i elements are made, `rest` of what stands behind them is still to be read
--     carrying_none, carrying_more, carrying_all      before its first turn, one turn, past the last element
--     standing          the `rest` of a loop that reads what it overwrites
use Rattle.std.specs.Prelude.{ℕ, zero, suc, ◌+◌, ◌≤◌, ◌<◌, ◌≡◌, refl, List, [], ◌∷◌, ◌++◌, length, take, drop, get_or, set, replicate}
use Rattle.std.proofs.Common.{sym, ap, ◌∙◌, arith, length-set}
use Rattle.sequences.specs.Overwriting.{overwrite_one, overwrite_done}

abbrev pub carried : (out on : ℕ → ℕ → ℕ) → ℕ → List ℕ → List ℕ
carried out on c [] = []
carried out on c (x ∷ xs) = out c x ∷ carried out on (on c x) xs

module _ (out on : ℕ → ℕ → ℕ) where
  pub length-carried : (c : ℕ) (xs : List ℕ) → length (carried out on c xs) ≡ length xs
  length-carried c [] = refl
  length-carried c (x ∷ xs) = ap suc (length-carried (on c x) xs)

module _ (out on : ℕ → ℕ → ℕ) (none : (c : ℕ) → out c 0 ≡ 0) where
  all_dry : (c k : ℕ) → carried out on c (replicate k 0) ≡ replicate k 0
  all_dry c zero = refl
  all_dry c (suc k) = rw (none c, all_dry (on c 0) k)

  pub carried-dry : (c : ℕ) (xs : List ℕ) (k : ℕ) → carried out on c (xs ++ replicate k 0) ≡ carried out on c xs ++ replicate k 0
  carried-dry c [] k = all_dry c k
  carried-dry c (x ∷ xs) k = ap (λ (l : List ℕ). out c x ∷ l) (carried-dry (on c x) xs k)

abbrev pub standing : ℕ → List ℕ → List ℕ
standing i xs = xs

pub record Carrying (out on : ℕ → ℕ → ℕ) (rest : ℕ → List ℕ → List ℕ) (room made : List ℕ) (q : List ℕ) (c i : ℕ) : Type 0 where
  pub up : i ≤ length room
  pub long : length q ≡ length room
  pub done : take i q ++ carried out on c (rest i (drop i q)) ≡ made

module _ (out on : ℕ → ℕ → ℕ) (rest : ℕ → List ℕ → List ℕ) (room : List ℕ) where
  pub carrying_none : (c : ℕ) → Carrying out on rest room (carried out on c (rest 0 room)) room c 0
  carrying_none c = record { up = omega arith; long = refl; done = refl }

  module _ (made q : List ℕ) (c i : ℕ) (inv : Carrying out on rest room made q c i) where
    pub carrying_more : (x v d : ℕ) → i < length room → rest i (get_or q i 0 ∷ drop (suc i) q) ≡ x ∷ rest (i + 1) (drop (suc i) q)
        → v ≡ out c x → d ≡ on c x → Carrying out on rest room made (set q i v) d (i + 1)
    carrying_more x v d more next made_of carried_on =
        let turn = overwrite_one (λ (l : List ℕ). carried out on c (rest i l)) (λ (l : List ℕ). carried out on d (rest (i + 1) l)) in
        record {
          up = omega arith;
          long = simp length-set inv.long;
          done = turn q i v (omega (arith, inv.long)) (rw (next, made_of, carried_on)) ∙ inv.done;
        }

    pub carrying_all : length room ≤ i → rest i [] ≡ [] → q ≡ made
    carrying_all past none =
        sym (overwrite_done (λ (l : List ℕ). carried out on c (rest i l)) q i (omega (arith, inv.long)) (ap (carried out on c) none)) ∙ inv.done
