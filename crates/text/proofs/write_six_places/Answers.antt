-- The whole part and the point, then three digits and three.
use native.Mathlib.Omega.{arith}
use Rattle.text.specs.Digits.{length-six_places, six-places}
use Rattle.text.specs.Written.{written_more}
use borrow.Author.Rules.{rules}
use Rattle.text.proofs.write_six_places.Goals as goal

pub write_whole-point-requires : goal.write_whole-point-requires
write_whole-point-requires c = omega (arith, length-six_places c.args.x)

pub write_byte-places-requires : goal.write_byte-places-requires
write_byte-places-requires c = omega (arith, length-six_places c.args.x)

pub write_three_digits-last-requires : goal.write_three_digits-last-requires
write_three_digits-last-requires c = omega (arith, length-six_places c.args.x)

pub write_three_digits-requires : goal.write_three_digits-requires
write_three_digits-requires c =
    let mid = c in
    omega (arith, length-six_places mid.args.x)

pub returns : goal.returns
returns c =
    let c₃ = c in
    let c₂ = c₃ in
    let c₁ = c₂ in
    let c₀ = c₁ in
    let x = c₀.args.x in
    let room = length-six_places x in
    rw (six-places x)
    (written_more (omega arith)
    (written_more (omega arith) c₀.write_whole-point.ensures c₁.write_byte-places.ensures)
    (written_more (omega arith) c₂.write_three_digits-last.ensures c₃.write_three_digits.ensures))
