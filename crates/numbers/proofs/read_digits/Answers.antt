-- The loop keeps what its run of digits will read on to; each digit makes the number at most ten times as large.
use Prim.Native.Nat.{◌≤◌}
use mathlib.Core.Path.{◌≡◌, refl, sym, ◌∙◌}
use native.Mathlib.Omega.{arith}
use lib.ListN.{length, get_or}
use Rattle.std.proofs.Common.{true, leb-true}
use Rattle.meaning.specs.Words.{◌≤?◌}
use Rattle.meaning.specs.Numbers.{is_digit}
use Rattle.sequences.specs.Choices.{both_hold}
use Rattle.numbers.specs.Digits.{ten_more, ten_below, digits_more, digits-stop, digits-end}
use Rattle.numbers.proofs.read_digits.Goals as goal

pub loop-i-init : goal.loop-i-init
loop-i-init c = (omega arith, refl)

pub returns-then-not-is_ascii_digit : goal.returns-then-not-is_ascii_digit
returns-then-not-is_ascii_digit c =
    let l = c.loop-i in
    digits-stop c.args.s.now l.i l.value (omega arith) (sym c.is_ascii_digit.ensures.value ∙ c.if-not-is_ascii_digit.true) ∙ l.invariant.1

pub overflow_mul-value : goal.overflow_mul-value
overflow_mul-value c = omega (arith, ten_below c.loop-i.i 9 (omega arith), c.loop-i.invariant.0)

pub overflow_add-value : goal.overflow_add-value
overflow_add-value c = omega (arith, ten_below c.loop-i.i 9 (omega arith), c.loop-i.invariant.0)

pub loop-i-preserved : goal.loop-i-preserved
loop-i-preserved c =
    let l = c.loop-i in
    let b = get_or c.args.s.now l.i 0 in
    let digit : is_digit b ≡ true = sym c.is_ascii_digit.ensures.value ∙ c.if-not-is_ascii_digit.false in
    let high : b ≤ 0x39 = leb-true _ _ (both_hold (0x30 ≤? b) (b ≤? 0x39) digit).1 in
    (omega (arith, ten_more l.i, l.invariant.0), sym (digits_more c.args.s.now l.i l.value (omega arith) digit) ∙ l.invariant.1)

pub returns : goal.returns
returns c =
    let l = c.loop-i in
    let all : length c.args.s.now ≡ l.i = omega arith in
    rw all (digits-end c.args.s.now l.i l.value (omega arith) ∙ l.invariant.1)
