-- The hydrograph held last, where the words and the areas have it.
use Rattle.std.specs.Prelude.{ℕ, zero, suc, ◌+◌, ◌-◌, ◌*◌, ◌≤◌, ◌≡◌, List, ◌∷◌, length, get_or}
use Rattle.std.proofs.Common.{ap, ◌∙◌, arith}
use Rattle.sequences.specs.Parts.{part, length_part}
use Rattle.meaning.specs.Blocks.{Held}
use Rattle.meaning.specs.Records.{most_ordinates}
use Rattle.stack.specs.declared.Stack.{Stack}
use Rattle.stack.specs.View.{Fits, held_of, held_in, view}

pub record Last (s : Stack) (nq : ℕ) (w : List ℕ) (h : Held) : Type 0 where
  pub some : 1 ≤ s.depth
  pub area : get_or s.areas (s.depth - 1) 0 ≡ h.area
  pub flow : part (most_ordinates * (s.depth - 1)) nq w ≡ h.flow

last_in : (nq : ℕ) (areas : List ℕ) (d : ℕ) (w : List ℕ) (h : Held) (hs : List Held) → held_in nq areas d w ≡ h ∷ hs
    → (1 ≤ d) × (held_of (get_or areas (d - 1) 0) (part (most_ordinates * (d - 1)) nq w) ≡ h)
last_in nq areas zero w h hs e = absurd (let z : ◌≡◌ {A = ℕ} 0 1 = cc in omega arith)
last_in nq areas (suc d) w h hs e = let n : suc d - 1 ≡ d = omega arith in (omega arith, rw n (cc))

pub view_last : (s : Stack) (nq : ℕ) (w : List ℕ) {h : Held} {hs : List Held} → view s nq w ≡ h ∷ hs → Last s nq w h
view_last s nq w {h} {hs} e =
    let l = last_in nq s.areas s.depth w h hs e in
    record { some = l.0; area = ap (λ (g : Held). g.area) l.1; flow = ap (λ (g : Held). g.flow) l.1 }

-- The part lent from p on is the last hydrograph, where p is its place.
module _ (s : Stack) (nq : ℕ) (w : List ℕ) where
  lent_last : (p : ℕ) → p ≡ most_ordinates * (s.depth - 1) → part p (p + nq - p) w ≡ part (most_ordinates * (s.depth - 1)) nq w
  lent_last p place = let n : p + nq - p ≡ nq = omega arith in rw (n, place)

  pub lent_by : {A : Type 0} (F : List ℕ → A) {r : A} (p : ℕ) → r ≡ F (part p (p + nq - p) w) → p ≡ most_ordinates * (s.depth - 1) → r ≡ F (part (most_ordinates * (s.depth - 1)) nq w)
  lent_by F p e place = e ∙ ap F (lent_last p place)

  module _ (f : (1 ≤ s.depth) × Fits s.depth nq (length w)) where
    pub length_last : length (part (most_ordinates * (s.depth - 1)) nq w) ≡ nq
    length_last = length_part (most_ordinates * (s.depth - 1)) nq w (omega (arith, f.0, f.1.deep, f.1.ordinates, f.1.enough))

    pub lent_few : (p : ℕ) → p ≡ most_ordinates * (s.depth - 1) → length (part p (p + nq - p) w) ≤ most_ordinates
    lent_few p place = rw (lent_last p place) (omega (arith, length_last, f.1.ordinates))
