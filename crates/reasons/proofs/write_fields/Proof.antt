-- The loop keeps that the first field that is refused among those left to see is the first among all: at a refused field it is written, and past the last there is none.
use Prim.Native.Nat.{ℕ, ◌+◌, ◌-◌, ◌≤◌, ◌<◌}
use mathlib.Core.Path.{◌≡◌, refl, sym, ap, subst, ◌∙◌}
use mathlib.Core.Bool.{Bool}
use mathlib.Core.List.{List, [], ◌∷◌}
use native.Mathlib.Omega.{arith}
use borrow.Author.Rules.{rules}
use lib.ListN.{length, take}
use Rattle.sequences.specs.Parts.{part, length_part}
use Rattle.meaning.specs.Fields.{fields_of}
use Rattle.meaning.specs.Records.{Item, Rule, rule_at}
use Rattle.meaning.specs.Reasons.{field_line, first_field, refused_by}
use Rattle.fields.specs.Spans.{form_of, Stands}
use Rattle.fields.specs.Turns.{first_stands}
use Rattle.rules.specs.Rules.{rule_by}
use Rattle.scanning.specs.FieldsLeft.{left_fields, SpanTurn, span_turn}
use Rattle.text.specs.Written.{Written, written_none}
use Rattle.reasons.specs.Stated.{stated_rules, stated_fields}
use Rattle.reasons.specs.FirstFields.{seen_first, field-here, field_passed, still_left, none_seen}
use Rattle.reasons.proofs.write_fields.Statement.{statement}
use Rattle.reasons.proofs.write_fields.Tie as tie

-- the first field that is refused, of those from field i on that are left to see
abbrev first_from : (six free : Bool) (item : Item) (l : List ℕ) (all i c : ℕ) → List ℕ
first_from six free item l all i c = first_field (refused_by six) (stated_rules item) i (take (all - i) (left_fields (form_of free) all i c l))

abbrev first_of : (six free : Bool) (item : Item) (l : List ℕ) → List ℕ
first_of six free item l = first_field (refused_by six) (stated_rules item) 0 (stated_fields item (fields_of (form_of free) l))

record Seeking (out₀ : List ℕ) (six free : Bool) (item : Item) (l : List ℕ) (all : ℕ) (out : List ℕ) (c i : ℕ) : Type 0 where
  same : out ≡ out₀
  up : i ≤ all
  few : all ≤ 80
  stands : Stands (form_of free) l i c
  goes : first_from six free item l all i c ≡ first_of six free item l

abbrev invariant-loop : tie.invariant-loop-i
invariant-loop out₀ six free item l all c₀ i₀ out c i = Seeking out₀ six free item l all out c i

abbrev decreases-loop : tie.decreases-loop-i
decreases-loop out₀ six free item l all c₀ i₀ out c i = all - i

loop-holds : tie.Need-loop-i-init invariant-loop decreases-loop
loop-holds c =
    let x = c.args in
    let form = form_of x.free in
    let all = c.fields_to_see-all in
    let zero : all.result - 0 ≡ all.result = omega arith in
    record {
      same = refl;
      up = omega arith;
      few = all.ensures.1;
      stands = rw c.first_place-c.ensures (first_stands form x.l.now);
      goes =
          rw (zero, c.first_place-c.ensures)
          (ap (first_field (refused_by x.six) (stated_rules x.item) 0) (seen_first x.item form x.l.now all.result all.ensures.0));
    }

next-span-requires : tie.Need-next_span-span-requires invariant-loop decreases-loop
next-span-requires c κs =
    let v = c.loop-i.invariant in
    (omega (arith, v.up, v.few), c.requires.1, v.stands)

-- A FIELD LEFT TO SEE
abbrev Left : Type 0
Left = tie.After-next_span-span invariant-loop decreases-loop

abbrev at : Left → tie.At-loop-i invariant-loop decreases-loop
at c = c.before.before

abbrev entry : Left → tie.Start invariant-loop decreases-loop
entry c = c.before.before.before.before.before.before.before

abbrev all : Left → ℕ
all c = c.fields_to_see-all.result

below : (c : Left) → (at c).loop-i.i < all c
below c = omega arith

turned : (c : Left) → SpanTurn (form_of (entry c).args.free) (entry c).args.l.now (at c).loop-i.i (at c).loop-i.c c.next_span-span.result
turned c =
    let x = (entry c).args in
    span_turn (form_of x.free) x.l.now (at c).loop-i.i (at c).loop-i.c c.next_span-span.result (entry c).requires.1 (at c).loop-i.invariant.stands c.next_span-span.ensures

abbrev field : Left → List ℕ
field c = let r = c.next_span-span.result in part r.from (r.to - r.from) (entry c).args.l.now

-- it is the first of those left
shown : (c : Left) → let x = (entry c).args in let l = (at c).loop-i in
    left_fields (form_of x.free) (all c) l.i l.c x.l.now ≡ field c ∷ (left_fields (form_of x.free) (all c) (l.i + 1) c.next_span-span.result.next x.l.now)
shown c = let x = (entry c).args in let l = (at c).loop-i in (turned c).fields (all c) (still_left (length x.l.now) l.c l.i (all c) (below c))

short : (c : Left) → length (field c) ≤ 80
short c =
    let r = c.next_span-span.result in
    let t = turned c in
    omega (arith, length_part r.from (r.to - r.from) (entry c).args.l.now (omega (arith, t.begins, t.ends)), t.ends, (entry c).requires.1)

-- it is refused
sub-is-refused : tie.Need-slice_bounds-is_refused-count invariant-loop decreases-loop
sub-is-refused c = omega (arith, (turned c.before).begins)

part-is-refused-start : tie.Need-slice_bounds-is_refused-start invariant-loop decreases-loop
part-is-refused-start c = let t = turned c.before in omega (arith, t.begins, t.ends)

part-is-refused-end : tie.Need-slice_bounds-is_refused-end invariant-loop decreases-loop
part-is-refused-end c = let t = turned c.before in omega (arith, t.begins, t.ends)

sub-write-field : tie.Need-slice_bounds-write_field-count invariant-loop decreases-loop
sub-write-field c = omega (arith, (turned c.before.before.before.before.before).begins)

part-write-field-start : tie.Need-slice_bounds-write_field-start invariant-loop decreases-loop
part-write-field-start c = let t = turned c.before.before.before.before.before in omega (arith, t.begins, t.ends)

part-write-field-end : tie.Need-slice_bounds-write_field-end invariant-loop decreases-loop
part-write-field-end c = let t = turned c.before.before.before.before.before in omega (arith, t.begins, t.ends)

write-field-requires : tie.Need-write_field-requires invariant-loop decreases-loop
write-field-requires c κs =
    let left = c.before.before.before.before.before.before in
    (short left, rw (at left).loop-i.invariant.same (entry left).requires.2)

-- WHAT WAS ASKED of the field
abbrev Asked : Type 0
Asked = tie.After-is_refused invariant-loop decreases-loop

abbrev seen : Asked → Left
seen c = c.before.before.before

abbrev rule : Asked → Rule
rule c = let x = (entry (seen c)).args in rule_at (stated_rules x.item) (at (seen c)).loop-i.i

stated : (c : Asked) → rule_by c.stated_rule-rule.result ≡ rule c
stated c = c.stated_rule-rule.ensures.0

told : (c : Asked) → c.is_refused.result ≡ refused_by (entry (seen c)).args.six (rule c) (field (seen c))
told c = c.is_refused.ensures ∙ ap (λ (r : Rule). refused_by (entry (seen c)).args.six r (field (seen c))) (stated c)

abbrev later : Asked → List (List ℕ)
later c = let x = (entry (seen c)).args in left_fields (form_of x.free) (all (seen c)) ((at (seen c)).loop-i.i + 1) (seen c).next_span-span.result.next x.l.now

-- the first of those left to see, the field in front
in-front : (c : Asked) → let x = (entry (seen c)).args in let l = (at (seen c)).loop-i in
    first_field (refused_by x.six) (stated_rules x.item) l.i (take (all (seen c) - l.i) (field (seen c) ∷ later c)) ≡ first_of x.six x.free x.item x.l.now
in-front c =
    let x = (entry (seen c)).args in
    let l = (at (seen c)).loop-i in
    ap (λ (gs : List (List ℕ)). first_field (refused_by x.six) (stated_rules x.item) l.i (take (all (seen c) - l.i) gs)) (sym (shown (seen c))) ∙ l.invariant.goes

some_left : (c : Asked) → 0 < all (seen c) - (at (seen c)).loop-i.i
some_left c = omega (arith, below (seen c))

returns : tie.Need-returns-then-is_refused invariant-loop decreases-loop
returns c =
    let asked = c.before.before.before.before.before.before in
    let x = (entry (seen asked)).args in
    let l = (at (seen asked)).loop-i in
    let written = c.write_field in
    let test = refused_by x.six in
    let here = field-here test (stated_rules x.item) l.i (field (seen asked)) (later asked) (all (seen asked) - l.i) (some_left asked) (sym (told asked) ∙ c.if-is_refused.true) in
    let text = ap (λ (r : Rule). field_line (l.i + 1) r (field (seen asked))) (stated asked) ∙ sym here ∙ in-front asked in
    let same : Written x.out.now 0 (field_line (l.i + 1) (rule_by asked.stated_rule-rule.result) (field (seen asked))) written.new.out written.result =
    subst (λ (o : List ℕ). Written o 0 (field_line (l.i + 1) (rule_by asked.stated_rule-rule.result) (field (seen asked))) written.new.out written.result) l.invariant.same written.ensures in
    subst (λ (t : List ℕ). Written x.out.now 0 t written.new.out written.result) text same

loop-again : tie.Need-loop-i-preserved invariant-loop decreases-loop
loop-again c =
    let asked = c.before in
    let x = (entry (seen asked)).args in
    let l = (at (seen asked)).loop-i in
    let n : all (seen asked) - l.i - 1 ≡ all (seen asked) - (l.i + 1) = omega arith in
    let past = field_passed (refused_by x.six) (stated_rules x.item) l.i (field (seen asked)) (later asked) (all (seen asked) - l.i) (some_left asked) (sym (told asked) ∙ c.if-is_refused.false) in
    record {
      same = l.invariant.same;
      up = omega (arith, below (seen asked));
      few = l.invariant.few;
      stands = (turned (seen asked)).stands;
      goes = ap (λ (m : ℕ). first_field (refused_by x.six) (stated_rules x.item) (l.i + 1) (take m (later asked))) (sym n) ∙ sym past ∙ in-front asked;
    }

returns-2 : tie.Need-returns invariant-loop decreases-loop
returns-2 c =
    let x = c.args in
    let l = c.loop-i in
    let none : first_of x.six x.free x.item x.l.now ≡ [] = sym l.invariant.goes ∙ none_seen (refused_by x.six) (stated_rules x.item) l.i (c.fields_to_see-all.result - l.i) (left_fields (form_of x.free) c.fields_to_see-all.result l.i l.c x.l.now) (omega arith) in
    rw (none, l.invariant.same) (written_none x.out.now 0)

pub write_fields_spec : {M : Type 1} → statement M
write_fields_spec =
    tie.close
    (tie.spec
    invariant-loop decreases-loop (λ c κs. search rules) (λ c κs. search rules) loop-holds next-span-requires (λ c κs. search rules) (λ c. omega (arith, (at c.before).loop-i.invariant.few)) sub-is-refused
    part-is-refused-start part-is-refused-end (λ c κs. c.stated_rule-rule.ensures.1) sub-write-field part-write-field-start part-write-field-end write-field-requires
    (λ c. c.write_field.auto.out ∙ ap length (at (seen c.before.before.before.before.before.before)).loop-i.invariant.same) returns
    (λ c. omega (arith, below (seen c.before))) loop-again (λ c. ap length c.loop-i.invariant.same) returns-2)
