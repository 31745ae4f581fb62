-- The two runs of digits cut the text where the definition cuts it, the second one what is left of the fraction, and each way out is one law of them.
use Rattle.std.proofs.Common.{rules}
use Prim.Native.Nat.{ℕ, ◌+◌, ◌-◌, ◌^◌, ◌≤◌, ◌<◌}
use mathlib.Core.Path.{◌≡◌, sym, ◌∙◌, ap}
use mathlib.Core.List.{List}
use native.Mathlib.Omega.{arith}
use lib.ListN.{length, take, drop, get_or, length-drop}
use lib.Seq.{length-take-le, drop-drop}
use Rattle.std.proofs.Common.{get_or-drop, ltb-true, ltb-false, add-zero}
use Rattle.meaning.specs.Fields.{trim_end}
use Rattle.meaning.specs.Numbers.{is_zero}
use Rattle.sequences.specs.Parts.{part, part_to_end}
use Rattle.sequences.specs.Trimming.{trim_within}
use Rattle.numbers.specs.declared.Digits.{Digits}
use Rattle.numbers.specs.Digits.{ten_below}
use Rattle.numbers.specs.Reading.{digits_from}
use Rattle.numbers.specs.Decimals.{first_within, first_below, read_whole, read_no_point, read_no_fraction, read_not_digits, read-places}
use Rattle.numbers.proofs.read_unsigned.Goals.{then-s-whole-lt1, else-s-whole-lt1+then-this-lt2+in-46-1}
use Rattle.numbers.proofs.read_unsigned.Goals as goal

-- What stands from `n` on, and behind its first byte.
module _ (s : List ℕ) (n : ℕ) where
  abbrev rest : List ℕ
  rest = part n (length s - n) s

  rest_length : length rest ≡ length s - n
  rest_length = ap length (part_to_end n s) ∙ length-drop n s

  rest_first : get_or rest 0 0 ≡ get_or s n 0
  rest_first = ap (λ (l : List ℕ). get_or l 0 0) (part_to_end n s) ∙ get_or-drop n s 0 0 ∙ ap (λ (k : ℕ). get_or s k 0) (add-zero n)

  abbrev behind : List ℕ
  behind = part 1 (length rest - 1) rest

  behind_is : behind ≡ drop (n + 1) s
  behind_is = part_to_end 1 rest ∙ ap (drop 1) (part_to_end n s) ∙ drop-drop 1 n s

pub slice_bounds-t-9-count : goal.slice_bounds-t-9-count
slice_bounds-t-9-count c = first_within c.args.s.now c.read_digits-whole.result c.read_digits-whole.ensures

pub slice_bounds-t-10-start : goal.slice_bounds-t-10-start
slice_bounds-t-10-start c =
    let within = first_within c.args.s.now c.read_digits-whole.result c.read_digits-whole.ensures in
    search (rules, within)

-- What is left of the fraction, as it is read behind the point.
module _ (s : List ℕ) (whole : Digits) (read : whole ≡ digits_from s 0 0) (short : length s ≤ 10) (places : ℕ)
    (told : places ≡ length (trim_end is_zero (behind s whole.end))) (more : 2 ≤ length (rest s whole.end)) where
  some : whole.end + 2 ≤ length s
  some = omega (arith, rest_length s whole.end)

  abbrev fraction : List ℕ
  fraction = drop (whole.end + 1) s

  places_told : places ≡ length (trim_end is_zero fraction)
  places_told = told ∙ ap (λ (l : List ℕ). length (trim_end is_zero l)) (behind_is s whole.end)

  places_within : places ≤ length fraction
  places_within = omega (arith, places_told, trim_within is_zero fraction)

  left_length : length (take places (behind s whole.end)) ≡ places
  left_length = ap (λ (l : List ℕ). length (take places l)) (behind_is s whole.end) ∙ length-take-le places fraction places_within

  fraction_length : length fraction ≡ length s - (whole.end + 1)
  fraction_length = length-drop (whole.end + 1) s

  fraction_some : 1 ≤ length fraction
  fraction_some = omega (arith, fraction_length, some)

  left_short : length (take places (behind s whole.end)) ≤ 10
  left_short = omega (arith, left_length, places_within, fraction_length)

  -- nine bytes at most stand before the point
  whole_below : whole.value < 10 ^ 9
  whole_below = omega (arith, first_below s whole read, ten_below whole.end 9 (omega (arith, some)))

  left_read : (left : Digits) → left ≡ digits_from (take places (behind s whole.end)) 0 whole.value → left ≡ digits_from (take places fraction) 0 whole.value
  left_read left h = h ∙ ap (λ (l : List ℕ). digits_from (take places l) 0 whole.value) (behind_is s whole.end)

pub slice_bounds-read_digits-end : goal.slice_bounds-read_digits-end
slice_bounds-read_digits-end c =
    let d = c.read_digits-whole in
    sym (left_length c.args.s.now d.result d.ensures c.requires c.places_left-places.result c.places_left-places.ensures c.in-46.len_at_least)

pub read_digits-left-requires : goal.read_digits-left-requires
read_digits-left-requires c =
    let d = c.read_digits-whole in
    let p = c.places_left-places in
    let s = c.args.s.now in (
      left_short s d.result d.ensures c.requires p.result p.ensures c.in-46.len_at_least,
      whole_below s d.result d.ensures c.requires p.result p.ensures c.in-46.len_at_least,
    )

pub returns-then-left-places : goal.returns-then-left-places
returns-then-left-places c =
    let d = c.read_digits-whole in
    let p = c.places_left-places in
    let s = c.args.s.now in
    let more = c.in-46.len_at_least in
    let point : get_or s d.result.end 0 ≡ 0x2E = omega (arith, rest_first s d.result.end) in
    read_not_digits _ s d.result d.ensures (omega (arith, some s d.result d.ensures c.requires p.result p.ensures more)) point p.result
    (places_told s d.result d.ensures c.requires p.result p.ensures more) c.read_digits-left.result
    (left_read s d.result d.ensures c.requires p.result p.ensures more c.read_digits-left.result c.read_digits-left.ensures) c.if-left-places.true

pub returns-else-left-places : goal.returns-else-left-places
returns-else-left-places c =
    let d = c.read_digits-whole in
    let p = c.places_left-places in
    let s = c.args.s.now in
    let more = c.in-46.len_at_least in
    let point : get_or s d.result.end 0 ≡ 0x2E = omega (arith, rest_first s d.result.end) in
    read-places _ s d.result d.ensures (omega (arith, some s d.result d.ensures c.requires p.result p.ensures more)) point p.result
    (places_told s d.result d.ensures c.requires p.result p.ensures more) c.read_digits-left.result
    (left_read s d.result d.ensures c.requires p.result p.ensures more c.read_digits-left.result c.read_digits-left.ensures) c.if-left-places.false
    (fraction_some s d.result d.ensures c.requires p.result p.ensures more) c.requires

pub returns-in_default : goal.returns-in_default
returns-in_default c =
    let d = c.read_digits-whole in
    let s = c.args.s.now in
    read_no_point _ s d.result d.ensures (omega (arith, rest_length s d.result.end)) (λ e. omega (arith, rest_first s d.result.end, e))

pub returns-in_default-2 : goal.returns-in_default-2
returns-in_default-2 c =
    let d = c.read_digits-whole in
    let s = c.args.s.now in
    read_no_point _ s d.result d.ensures (omega (arith, rest_length s d.result.end)) (λ e. omega (arith, rest_first s d.result.end, e))

pub returns-in-empty : goal.returns-in-empty
returns-in-empty c =
    let d = c.read_digits-whole in
    let s = c.args.s.now in
    let e = d.result.end in
    c.count_digits.ensures ∙
    elim c.in-empty-1.branch [
      | then-s-whole-lt1 w ↦ read_whole _ s d.result d.ensures (omega (arith, rest_length s e, ltb-true, ltb-false))
      | else-s-whole-lt1+then-this-lt2+in-46-1 w ↦
          let point : get_or s e 0 ≡ 0x2E = omega (arith, rest_first s e) in
          read_no_fraction _ s d.result d.ensures (omega (arith, rest_length s e, ltb-true, ltb-false)) point (omega (arith, rest_length s e, length-drop (e + 1) s, ltb-true, ltb-false))
    ]
