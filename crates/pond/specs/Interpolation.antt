-- One interpolation: the outflow between a row and the next one.
--     between-low, between_high   at the row's W it is the row's Q, and at the next one's W the next one's
--     between_least, between_most it is the row's Q at least, and the next one's at most
--     between_rises               it never falls while W rises
--     between_under               where c·Q is at most W in both rows, c times it is at most W between them
use Rattle.std.specs.Prelude.{ℕ, ◌+◌, ◌-◌, ◌*◌, ◌/◌, ◌≤◌, ◌<◌, ◌≡◌}
use Rattle.std.proofs.Common.{add-zero, mul-zero, add-sub_of_le, mul-div_cancel, mul-le-mul_left}
use Rattle.std.proofs.Math.Nat.{zero-div, sub_self, mul-div-le, le_of_mul-le-mul_left}
use native.Mathlib.Omega.{arith}
use Rattle.sequences.specs.Cuts.{div_rises}
use Rattle.meaning.specs.Pool.{PoolRow, w_of, between}
use Rattle.pond.specs.Tables.{Follows}

-- A chord: c·q starts at or below w and ends, `more` higher, at or below w, x + y higher. So it is at or below after x of the x + y, and all the more so where the part of
-- `more` is rounded down.
chord : (c q more w x y part : ℕ) → c * q ≤ w → c * (q + more) ≤ w + (x + y) → (x + y) * part ≤ more * x → 0 < x + y → c * (q + part) ≤ w + x
chord c q more w x y part start end cut some =
    let rounded : c * ((x + y) * part) ≤ c * (more * x) = mul-le-mul_left c cut in
    let before : y * (c * q) ≤ y * w = mul-le-mul_left y start in
    let behind : x * (c * (q + more)) ≤ x * (w + (x + y)) = mul-le-mul_left x end in
    let all : (x + y) * (c * (q + part)) ≤ (x + y) * (w + x) = omega arith in
    le_of_mul-le-mul_left all some

pub between-low : (m : ℕ) (row next : PoolRow) → between m row next (w_of m row) ≡ row.q
unfolding between
between-low m row next = rw (sub_self (w_of m row), mul-zero (next.q - row.q), zero-div (w_of m next - w_of m row), add-zero row.q)

pub between_least : (m : ℕ) (row next : PoolRow) (w : ℕ) → row.q ≤ between m row next w
unfolding between
between_least m row next w = omega arith

pub between_rises : (m : ℕ) (row next : PoolRow) (w w' : ℕ) → w ≤ w' → between m row next w ≤ between m row next w'
unfolding between
between_rises m row next w w' h =
    let part : w - w_of m row ≤ w' - w_of m row = omega arith in
    omega (arith, div_rises (w_of m next - w_of m row) (mul-le-mul_left (next.q - row.q) part))

module _ (m : ℕ) (row next : PoolRow) (f : Follows m row next) where
  pub between_high : between m row next (w_of m next) ≡ next.q
  unfolding between
  between_high =
      let some : 0 < w_of m next - w_of m row = omega (arith, f.rises) in
      rw (mul-div_cancel (next.q - row.q) some) (add-sub_of_le f.grows)

  pub between_most : (w : ℕ) → w ≤ w_of m next → between m row next w ≤ next.q
  between_most w h = omega (arith, between_high, between_rises m row next w (w_of m next) h)

  pub between_under : (c w : ℕ) → c * row.q ≤ w_of m row → c * next.q ≤ w_of m next → w_of m row ≤ w → w ≤ w_of m next → c * between m row next w ≤ w
  unfolding between
  between_under c w low high above below =
      let more = next.q - row.q in
      let x = w - w_of m row in
      let y = w_of m next - w in
      let span : x + y ≡ w_of m next - w_of m row = omega arith in
      let part = more * x / (w_of m next - w_of m row) in
      let q : row.q + more ≡ next.q = omega (arith, f.grows) in
      let top : w_of m row + (x + y) ≡ w_of m next = omega arith in
      let end : c * (row.q + more) ≤ w_of m row + (x + y) = rw (q, top) high in
      let cut : (x + y) * part ≤ more * x = rw span (mul-div-le (more * x) (w_of m next - w_of m row)) in
      let some : 0 < x + y = omega (arith, f.rises) in
      let all : c * (row.q + part) ≤ w_of m row + x = chord c row.q more (w_of m row) x y part low end cut some in
      omega arith
