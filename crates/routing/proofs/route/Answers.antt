-- `routing::route` meets its contract. The steps that are left make of the ordinates now what all the steps make of those at entry.
use Prim.Native.Nat.{ℕ, suc, ◌-◌, ◌+◌}
use mathlib.Core.Path.{◌≡◌}
use native.Mathlib.Omega.{arith}
use Rattle.meaning.specs.Water.{coef_a, coef_b, coef_c}
use Rattle.routing.specs.Soundness.{Sound, Reach, reach-sound}
use Rattle.routing.specs.Limits.{stepped_within}
use Rattle.routing.proofs.route.Goals as goal

sound_of : (n m k x a b d : ℕ) → (a ≡ coef_a n m) × (b ≡ coef_b k x) × (d ≡ coef_c k x) → Reach n m k x → Sound a b d
sound_of n m k x a b d e r = rw (e.0, e.1, e.2) (reach-sound n m k x r)

pub step-requires-clause-sound : goal.step-requires-clause-sound
step-requires-clause-sound c = let x = c.args in sound_of x.n x.m x.k x.x _ _ _ c.coefficients_of-w.ensures c.requires.reach

pub loop-preserved : goal.loop-preserved
loop-preserved c =
    let x = c.args in
    let l = c.loop in
    let e = c.step.ensures in
    let one : x.n - l.counter ≡ suc (x.n - (l.counter + 1)) = omega arith in
    let sound = sound_of x.n x.m x.k x.x _ _ _ c.coefficients_of-w.ensures c.requires.reach in
    (rw e (stepped_within _ _ _ l.q sound l.invariant.0), rw e (rw one at l.invariant.1))
