-- The sign is taken off, and the number behind it is read.
use Rattle.std.proofs.Common.{rules, Some, ltb-false}
use Prim.Native.Nat.{ℕ, ◌-◌, ◌≤◌, ◌<◌}
use mathlib.Core.Path.{◌≡◌, sym, ◌∙◌, ap}
use mathlib.Core.List.{List}
use native.Mathlib.Omega.{arith}
use lib.ListN.{length, drop, get_or}
use Rattle.std.specs.List.{slice_get}
use Rattle.std.proofs.lemmas.Option.{slice_get_within, get_or_from_slice_get}
use Rattle.meaning.specs.Words.{◌=?◌}
use Rattle.meaning.specs.Numbers.{decimal_of, NoNumber, number_of}
use Rattle.sequences.specs.Parts.{part, part_to_end}
use Rattle.numbers.specs.Reading.{sign_length}
use Rattle.numbers.specs.FieldNumbers.{blank_number, long_number, behind_sign, sign_one}
use Rattle.numbers.proofs.read_number.Goals as goal

pub returns-in_default : goal.returns-in_default
returns-in_default c = blank_number _ (omega (arith, ltb-false 0 (length c.args.f.now) (sym c.in_default.ensures.item.0)))

-- What stands behind the sign, by the first byte.
module _ (f : List ℕ) (b : ℕ) (first : Some b ≡ slice_get f 0) (at : ℕ) (told : at ≡ sign_length b) where
  some : 0 < length f
  some = slice_get_within f 0 b (sym first)

  first_is : get_or f 0 0 ≡ b
  first_is = get_or_from_slice_get f 0 b 0 (sym first)

  within : at ≤ length f
  within = omega (arith, some, told, sign_one b)

  behind : part at (length f - at) f ≡ drop (sign_length (get_or f 0 0)) f
  behind = part_to_end at f ∙ ap (λ (k : ℕ). drop k f) (told ∙ ap sign_length (sym first_is))

  too_long : 10 < length (part at (length f - at) f) → NoNumber ≡ number_of f
  too_long h = long_number f (omega (arith, some)) (rw behind at h)

  read_is : decimal_of (b =? 0x2D) (part at (length f - at) f) ≡ number_of f
  read_is = ap (decimal_of (b =? 0x2D)) behind ∙ ap (λ (x : ℕ). decimal_of (x =? 0x2D) (drop (sign_length (get_or f 0 0)) f)) (sym first_is) ∙ behind_sign f (omega (arith, some))

pub slice_bounds-s-count : goal.slice_bounds-s-count
slice_bounds-s-count c = within c.args.f.now c.in-Some.field-0.now c.in-Some.ensures.value c.sign_length.result c.sign_length.ensures

pub slice_bounds-s-start : goal.slice_bounds-s-start
slice_bounds-s-start c =
    let fits = within c.args.f.now c.in-Some.field-0.now c.in-Some.ensures.value c.sign_length.result c.sign_length.ensures in
    search (rules, fits)

pub returns-then-s-gt10 : goal.returns-then-s-gt10
returns-then-s-gt10 c = too_long c.args.f.now c.in-Some.field-0.now c.in-Some.ensures.value c.sign_length.result c.sign_length.ensures c.if-s-gt10.true

pub returns : goal.returns
returns c = c.read_unsigned.ensures ∙ read_is c.args.f.now c.in-Some.field-0.now c.in-Some.ensures.value c.sign_length.result c.sign_length.ensures
