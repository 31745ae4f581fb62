-- The whole part and the point, then the two digits.
use Prim.Native.Nat.{◌/◌, ◌%◌}
use mathlib.Core.Path.{◌≡◌}
use native.Mathlib.Omega.{arith}
use Rattle.meaning.specs.Listing.{digit, two_places}
use Rattle.text.specs.Digits.{length-two_places}
use Rattle.text.specs.Written.{written_more}
use borrow.Author.Rules.{rules}
use Rattle.text.proofs.write_two_places.Goals as goal

pub write_whole-point-requires : goal.write_whole-point-requires
write_whole-point-requires c = omega (arith, length-two_places c.args.x)

pub write_byte-tenths-requires : goal.write_byte-tenths-requires
write_byte-tenths-requires c = omega (arith, length-two_places c.args.x)

pub write_byte-hundredths-requires : goal.write_byte-hundredths-requires
write_byte-hundredths-requires c = omega (arith, length-two_places c.args.x)

pub write_byte-requires : goal.write_byte-requires
write_byte-requires c =
    let mid = c in
    omega (arith, length-two_places mid.args.x)

pub returns : goal.returns
unfolding two_places
returns c =
    let c₃ = c in
    let c₂ = c₃ in
    let c₁ = c₂ in
    let c₀ = c₁ in
    let x = c₀.args.x in
    let room = length-two_places x in
    let tenths : digit (x / 10 % 10) ≡ c₂.digit_of.result = omega (arith, c₂.digit_of.ensures) in
    let hundredths : digit (x % 10) ≡ c₃.digit_of-2.result = omega (arith, c₃.digit_of-2.ensures) in
    rw (tenths, hundredths)
    (written_more (omega arith)
    (written_more (omega arith) c₀.write_whole-point.ensures c₁.write_byte-tenths.ensures)
    (written_more (omega arith) c₂.write_byte-hundredths.ensures c₃.write_byte.ensures))
