-- What is left of a list without the last ones that pass a test (`trim_end`): a front of the list.
--     trim_pass, trim_stop    by its last element: one that passes the test is dropped, any other keeps all before it
--     take-pass, take-stop    the same of the first n elements; take_none: of none. A loop that goes from the end to the front keeps what is left, and
--                             ends (take_ends) with how many that are
--     trim_front, trim_within what is left is a front, and no longer
--     trim_split              behind it stand the ones that were dropped
use Prim.Native.Nat.{ℕ, suc, ◌-◌, ◌≤◌, ◌<◌}
use Rattle.std.specs.Prelude.{◌≡◌, Bool, ◌&&◌, get_or, replicate}
use Rattle.std.proofs.Math.Path.{refl, ap}
use Rattle.std.proofs.Common.{sym, ◌∙◌, take-suc, length-take-le}
use Rattle.std.proofs.Math.Bool.{true, false, and-false}
use mathlib.Core.List.{List, [], ◌∷◌, ◌++◌}
use native.Mathlib.Omega.{arith}
use Rattle.std.proofs.Math.ListN.{length, take}
use Rattle.meaning.specs.Words.{when◌then◌else◌, empty}
use Rattle.meaning.specs.Fields.{trim_end}

module _ {A : Type 0} (test : A → Bool) where
  pub trim_pass : (xs : List A) (x : A) → test x ≡ true → trim_end test (xs ++ (x ∷ [])) ≡ trim_end test xs
  unfolding trim_end when◌then◌else◌
  trim_pass [] x h = rw h
  trim_pass (y ∷ ys) x h = rw (trim_pass ys x h)

  not_empty : (xs : List A) (x : A) → empty (xs ++ (x ∷ [])) ≡ false
  not_empty [] x = refl
  not_empty (y ∷ ys) x = refl

  pub trim_stop : (xs : List A) (x : A) → test x ≡ false → trim_end test (xs ++ (x ∷ [])) ≡ xs ++ (x ∷ [])
  unfolding trim_end when◌then◌else◌
  trim_stop [] x h = rw h
  trim_stop (y ∷ ys) x h = rw (trim_stop ys x h, not_empty ys x, and-false (test y))

  pub trim_front : (xs : List A) → take (length (trim_end test xs)) xs ≡ trim_end test xs
  unfolding trim_end when◌then◌else◌
  trim_front [] = refl
  trim_front (x ∷ xs) = go (test x && empty (trim_end test xs)) (trim_front xs)
    where
      go : (t : Bool) → take (length (trim_end test xs)) xs ≡ trim_end test xs
          → take (length (when t then [] else x ∷ trim_end test xs)) (x ∷ xs) ≡ (when t then [] else x ∷ trim_end test xs)
      go true ih = refl
      go false ih = ap (λ (l : List A). x ∷ l) ih

  pub trim_within : (xs : List A) → length (trim_end test xs) ≤ length xs
  unfolding trim_end when◌then◌else◌
  trim_within [] = omega arith
  trim_within (x ∷ xs) = go (test x && empty (trim_end test xs)) (trim_within xs)
    where
      go : (t : Bool) → length (trim_end test xs) ≤ length xs → length (when t then [] else x ∷ trim_end test xs) ≤ suc (length xs)
      go true ih = omega arith
      go false ih = omega arith

  -- where one element alone passes the test, it is what was dropped
  module _ (e : A) (alone : (x : A) → test x ≡ true → x ≡ e) where
    step : (x : A) (xs ts : List A) (n : ℕ) (t : Bool) → test x ≡ t → xs ≡ ts ++ replicate n e
        → (m : ℕ) × (x ∷ xs ≡ (when t && empty ts then [] else x ∷ ts) ++ replicate m e)
    unfolding when◌then◌else◌
    step x xs [] n true h k = (suc n, rw (alone x h) (ap (λ (l : List A). e ∷ l) k))
    step x xs (y ∷ ts) n true h k = (n, ap (λ (l : List A). x ∷ l) k)
    step x xs ts n false h k = (n, ap (λ (l : List A). x ∷ l) k)

    pub trim_split : (xs : List A) → (n : ℕ) × (xs ≡ trim_end test xs ++ replicate n e)
    unfolding trim_end
    trim_split [] = (0, refl)
    trim_split (x ∷ xs) = let h = trim_split xs in step x xs (trim_end test xs) h.0 (test x) refl h.1

module _ (test : ℕ → Bool) (s : List ℕ) (n : ℕ) where
  pub take_none : n ≡ 0 → trim_end test (take n s) ≡ take n s
  unfolding trim_end
  take_none e = rw e

  -- where nothing is left to drop, so many are left
  pub take_ends : n ≤ length s → {ts : List ℕ} → trim_end test (take n s) ≡ take n s → trim_end test (take n s) ≡ ts → n ≡ length ts
  take_ends h {ts} kept same = omega (arith, ap length (sym same ∙ kept), length-take-le n s h)

  module _ (some : 0 < n) (within : n ≤ length s) where
    last_of : take n s ≡ take (n - 1) s ++ (get_or s (n - 1) 0 ∷ [])
    last_of =
        let e : n ≡ suc (n - 1) = omega arith in
        ap (λ (k : ℕ). take k s) e ∙ take-suc s (n - 1) 0 (omega arith)

    pub take-pass : test (get_or s (n - 1) 0) ≡ true → trim_end test (take n s) ≡ trim_end test (take (n - 1) s)
    take-pass h = ap (trim_end test) last_of ∙ trim_pass test (take (n - 1) s) (get_or s (n - 1) 0) h

    pub take-stop : test (get_or s (n - 1) 0) ≡ false → trim_end test (take n s) ≡ take n s
    take-stop h = ap (trim_end test) last_of ∙ trim_stop test (take (n - 1) s) (get_or s (n - 1) 0) h ∙ sym last_of
