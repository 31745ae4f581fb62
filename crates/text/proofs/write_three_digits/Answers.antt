-- The three digits, one behind another.
use Prim.Native.Nat.{◌/◌, ◌%◌}
use mathlib.Core.Path.{◌≡◌}
use native.Mathlib.Omega.{arith}
use Rattle.meaning.specs.Listing.{digit}
use Rattle.text.specs.Written.{written_more}
use borrow.Author.Rules.{rules}
use Rattle.text.proofs.write_three_digits.Goals as goal

pub returns : goal.returns
returns c =
    let c₃ = c in
    let c₂ = c₃ in
    let c₁ = c₂ in
    let x = c₁.args.x in
    let first : digit (x / 100 % 10) ≡ c₁.digit_of.result = omega (arith, c₁.digit_of.ensures) in
    let second : digit (x / 10 % 10) ≡ c₂.digit_of-2.result = omega (arith, c₂.digit_of-2.ensures) in
    let third : digit (x % 10) ≡ c₃.digit_of-3.result = omega (arith, c₃.digit_of-3.ensures) in
    rw (first, second, third)
    (written_more (omega arith) c₁.write_byte-second.ensures (written_more (omega arith) c₂.write_byte-third.ensures c₃.write_byte.ensures))
