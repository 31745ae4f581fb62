-- A loop over the ordinates of a step: with no ordinate there is nothing to do, the first outflow is the first inflow, and a turn puts one outflow.
use Rattle.std.specs.Prelude.{ℕ, ◌+◌, ◌/◌, ◌%◌, ◌<◌, ◌≡◌, refl, List, [], ◌∷◌, ◌++◌, length, take, drop, get_or, set}
use Rattle.std.proofs.Common.{arith}
use Rattle.sequences.specs.Overwriting.{overwrite_one}
use Rattle.meaning.specs.Water.{weighed, outflows, stepped}

pub stepped_none : (a b c : ℕ) (xs : List ℕ) → length xs ≡ 0 → xs ≡ stepped a b c xs
stepped_none a b c [] h = refl
stepped_none a b c (x ∷ xs) h = absurd (omega arith)

pub stepped_first : (a b c x o : ℕ) (xs : List ℕ) → 0 < length xs → x ≡ get_or xs 0 0 → o ≡ get_or xs 0 0 → take 1 xs ++ outflows a b c x o 0 (drop 1 xs) ≡ stepped a b c xs
stepped_first a b c x o [] h p q = absurd (omega arith)
stepped_first a b c x o (y ∷ ys) h p q = rw (p, q)

-- y, o' and r' are the inflow, the outflow and the remainder after it, and v is what is put
pub stepped_turn : (a b c : ℕ) (q : List ℕ) (i x o r t y o' r' v : ℕ) → i < length q → t ≡ weighed a b c x (get_or q i 0) o r
    → y ≡ get_or q i 0 → o' ≡ t / (a + c) → r' ≡ t % (a + c) → v ≡ t / (a + c)
    → take (i + 1) (set q i v) ++ outflows a b c y o' r' (drop (i + 1) (set q i v)) ≡ take i q ++ outflows a b c x o r (drop i q)
stepped_turn a b c q i x o r t y o' r' v h e py po pr pv =
    rw (py, po, pr, pv)
    (overwrite_one (outflows a b c x o r) (outflows a b c (get_or q i 0) (t / (a + c)) (t % (a + c))) q i (t / (a + c)) h (rw e))
