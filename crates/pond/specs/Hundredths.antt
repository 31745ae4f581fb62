-- The code's way to the outflow between two rows. Rows are in hundredths times 600,000, so that Q rises by 600,000 times `more` and W by 600,000 times `rise`: the fraction is cut
-- by 600,000, and W above the row is divided by `rise` before it is multiplied, with the remainder carried. Nothing is rounded but once.
--     between-cut      the fraction, cut
--     divided_first    a product divided is the quotient's multiple and the remainder's, divided
--     between_divided  both: what the code reckons is the outflow
--     w_hundredths     W of a row is 600,000 times that of its hundredths; w_rises: and rises so to that of the next one
use Rattle.std.specs.Prelude.{ℕ, ◌+◌, ◌-◌, ◌*◌, ◌/◌, ◌%◌, ◌≤◌, ◌<◌, ◌≡◌}
use Rattle.std.proofs.Common.{ap, sym, ◌∙◌, mul-add, mul_left_comm}
use Rattle.std.proofs.Math.Nat.{mul_assoc, div-add-mod, mul-add-div, mul-div-mul_left}
use native.Mathlib.Omega.{arith}
use Rattle.meaning.specs.Pool.{PoolRow, pool_row, w_of, between}

module _ (m : ℕ) (row next : PoolRow) (more rise w : ℕ) (flows : row.q + 600_000 * more ≡ next.q) (levels : w_of m row + 600_000 * rise ≡ w_of m next) where
  pub between-cut : between m row next w ≡ row.q + more * (w - w_of m row) / rise
  unfolding between
  between-cut =
      let x = w - w_of m row in
      let q : next.q - row.q ≡ 600_000 * more = omega arith in
      let d : w_of m next - w_of m row ≡ 600_000 * rise = omega arith in
      let some : 0 < 600_000 = omega arith in
      rw (q, d, mul_assoc 600_000 more x) (ap (λ (z : ℕ). row.q + z) (mul-div-mul_left (more * x) rise some))

pub divided_first : (more x rise : ℕ) → 0 < rise → more * (x / rise) + more * (x % rise) / rise ≡ more * x / rise
divided_first more x rise some =
    let n = x / rise in
    let r = x % rise in
    let apart : rise * (more * n) + more * r ≡ more * x = rw mul_left_comm (sym (mul-add more (rise * n) r) ∙ ap (λ (z : ℕ). more * z) (div-add-mod x rise)) in
    sym (mul-add-div some (more * n) (more * r)) ∙ ap (λ (z : ℕ). z / rise) apart

pub between_divided : (m : ℕ) (row next : PoolRow) (more rise w : ℕ) → row.q + 600_000 * more ≡ next.q → w_of m row + 600_000 * rise ≡ w_of m next → 0 < rise
    → let x = w - w_of m row in row.q + more * (x / rise) + more * (x % rise) / rise ≡ between m row next w
between_divided m row next more rise w flows levels some =
    let x = w - w_of m row in
    omega (arith, divided_first more x rise some, between-cut m row next more rise w flows levels)

pub w_hundredths : (m sv sq : ℕ) → w_of m (pool_row sv sq) ≡ 600_000 * (1_452 * sv + m * sq)
unfolding w_of
w_hundredths m sv sq = omega arith

pub w_rises : (m sv sq sv' sq' : ℕ) → sv ≤ sv' → sq ≤ sq' → w_of m (pool_row sv sq) + 600_000 * (1_452 * (sv' - sv) + m * (sq' - sq)) ≡ w_of m (pool_row sv' sq')
w_rises m sv sq sv' sq' v q =
    let same : sq + (sq' - sq) ≡ sq' = omega arith in
    let flows : m * sq + m * (sq' - sq) ≡ m * sq' = rw (← mul-add m sq (sq' - sq), same) in
    omega (arith, w_hundredths m sv sq, w_hundredths m sv' sq')
