-- The line in its six parts, each written where the one before it ends.
use Prim.Native.Nat.{◌+◌, ◌≤◌}
use native.Mathlib.Omega.{arith}
use Rattle.rules.specs.Rules.{rule_by}
use Rattle.text.specs.Digits.{whole_within}
use Rattle.text.specs.Written.{written_more}
use Rattle.reasons.specs.Sizes.{why_size}
use Rattle.reasons.specs.Texts.{field_short, field_parts}
use Rattle.reasons.proofs.write_field.Goals as goal

pub write_whole-blank-requires : goal.write_whole-blank-requires
write_whole-blank-requires c = omega (arith, c.write_text-number.ensures.place, whole_within c.args.k, c.requires.1)

pub write_byte-why-requires : goal.write_byte-why-requires
write_byte-why-requires c = omega (arith, c.write_text-number.ensures.place, c.write_whole-blank.ensures.place, whole_within c.args.k, c.requires.1)

pub write_field_reason-end-requires : goal.write_field_reason-end-requires
write_field_reason-end-requires c =
    omega (arith, c.write_text-number.ensures.place, c.write_whole-blank.ensures.place, c.write_byte-why.ensures.place, whole_within c.args.k, c.requires.1)

pub write_byte-field-requires : goal.write_byte-field-requires
write_byte-field-requires c =
    omega (
      arith,
      c.write_text-number.ensures.place,
      c.write_whole-blank.ensures.place,
      c.write_byte-why.ensures.place,
      c.write_field_reason-end.ensures.place,
      field_short (rule_by c.args.rule) c.args.f.now,
      whole_within c.args.k,
      c.requires.1,
    )

pub write_text-last-requires : goal.write_text-last-requires
write_text-last-requires c =
    omega (
      arith,
      c.write_text-number.ensures.place,
      c.write_whole-blank.ensures.place,
      c.write_byte-why.ensures.place,
      c.write_field_reason-end.ensures.place,
      c.write_byte-field.ensures.place,
      field_short (rule_by c.args.rule) c.args.f.now,
      whole_within c.args.k,
      c.requires.0,
      c.requires.1,
    )

pub write_byte-requires : goal.write_byte-requires
write_byte-requires c =
    omega (
      arith,
      c.write_text-number.ensures.place,
      c.write_whole-blank.ensures.place,
      c.write_byte-why.ensures.place,
      c.write_field_reason-end.ensures.place,
      c.write_byte-field.ensures.place,
      c.write_text-last.ensures.place,
      field_short (rule_by c.args.rule) c.args.f.now,
      whole_within c.args.k,
      c.requires.0,
      c.requires.1,
    )

pub returns : goal.returns
returns c =
    let x = c.args in
    let room = c.requires.1 in
    let number : c.write_text-number.result ≤ 6 = omega (arith, c.write_text-number.ensures.place) in
    let blank : c.write_whole-blank.result ≤ 26 = omega (arith, number, c.write_whole-blank.ensures.place, whole_within x.k) in
    let why : c.write_byte-why.result ≤ 27 = omega (arith, blank, c.write_byte-why.ensures.place) in
    let end : c.write_field_reason-end.result ≤ 27 + why_size = omega (arith, why, c.write_field_reason-end.ensures.place, field_short (rule_by x.rule) x.f.now) in
    let field : c.write_byte-field.result ≤ 28 + why_size = omega (arith, end, c.write_byte-field.ensures.place) in
    let last : c.write_text-last.result ≤ 108 + why_size = omega (arith, field, c.write_text-last.ensures.place, c.requires.0) in
    rw (field_parts x.k (rule_by x.rule) x.f.now)
    (written_more (omega (arith, last, room))
    (written_more (omega (arith, field, room))
    (written_more (omega (arith, end, room))
    (written_more (omega (arith, why, room))
    (written_more (omega (arith, blank, room))
    (written_more (omega (arith, number, room)) c.write_text-number.ensures c.write_whole-blank.ensures)
    c.write_byte-why.ensures)
    c.write_field_reason-end.ensures)
    c.write_byte-field.ensures)
    c.write_text-last.ensures)
    c.write_byte.ensures)
