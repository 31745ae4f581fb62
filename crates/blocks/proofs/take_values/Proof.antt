-- The region of the record is lent; what is in it then is one law for every record.
use Prim.Native.Nat.{ℕ, suc, ◌+◌, ◌-◌, ◌≤◌, ◌<◌}
use mathlib.Core.Path.{◌≡◌, sym, ◌∙◌}
use mathlib.Core.List.{List}
use native.Mathlib.Omega.{arith}
use lib.ListN.{length}
use Rattle.sequences.specs.Parts.{part}
use Rattle.refusals.specs.Numbers.{refusal_in}
use Rattle.meaning.specs.Records.{table, row_of}
use Rattle.records.specs.Rows.{items, words_of, start, room_of, most_in, span_in, next_start, span-by, most-by, most_fits, own_few}
use Rattle.blocks.specs.Cards.{region_of}
use Rattle.blocks.specs.Taking.{region_part, region_fits, region_long, takes}
use borrow.Author.Rules.{rules}
use Rattle.blocks.proofs.take_values.Statement.{statement}
use Rattle.blocks.proofs.take_values.Tie as tie

-- where the region stands, and that it is within the words
record Place (item from to : ℕ) (w : List ℕ) : Type 0 where
  begins : from ≡ start item
  ends : to ≡ from + suc (room_of item)
  wide : to - from ≡ suc (room_of item)
  room : to - from - 1 ≡ room_of item
  fits : to ≤ length w

place : (c : tie.After-start_of-to)
    → let x = c.args in Place x.item c.start_of-from.result c.start_of-to.result x.cards.now
place c =
    let s = c.before.before.before.before in
    let h = next_start s.args.item (search rules) in
    let f = region_fits s.args.item s.args.cards.now (search rules) s.requires.1.1.long in
    let e : c.start_of-to.result ≡ c.start_of-from.result + suc (room_of s.args.item) = omega (arith, c.start_of-from.ensures, c.start_of-to.ensures) in
    record { begins = c.start_of-from.ensures; ends = e; wide = omega arith; room = omega arith; fits = omega (arith, c.start_of-from.ensures) }

in_region : {item from to : ℕ} {w : List ℕ} → Place item from to w → item < items → words_of table ≤ length w → part from (to - from) w ≡ region_of item w
in_region {item} {from} {to} {w} p inside long = rw (p.wide, p.begins) (sym (region_part item w inside long))

-- how many values are the record's, and how many it may have
record Counts (item count nq n most : ℕ) : Type 0 where
  own : n ≡ span_in (row_of item) count
  bound : most ≡ most_in (row_of item) nq

counts : (c : tie.After-most_by-most)
    → let x = c.args in Counts x.item x.count x.nq c.span_by-n.result c.most_by-most.result
counts c =
    let x = c.args in
    let p = place c.before.before.before in
    record {
      own = c.span_by-n.ensures ∙ rw (p.room, c.way_of-way.ensures) (span-by (row_of x.item) x.count);
      bound = c.most_by-most.ensures ∙ rw (p.room, c.way_of-way.ensures) (most-by (row_of x.item) x.nq);
    }

sub-room : tie.Need-overflow_sub-room
sub-room c = let p = place c in omega (arith, p.ends)

sub-room-2 : tie.Need-overflow_sub-room-2
sub-room-2 c = let p = place c in omega (arith, p.ends)

mul-take-in : tie.Need-offset_bounds-cards-from
mul-take-in c = let p = place c.before.before.before in omega (arith, p.ends, p.fits)

sub-take-in : tie.Need-slice_bounds-take_in-count
sub-take-in c = let p = place c.before.before.before in omega (arith, p.ends, p.fits)

part-take-in-start : tie.Need-slice_bounds-take_in-start
part-take-in-start c = let p = place c.before.before.before in omega (arith, p.ends, p.fits)

part-take-in-end : tie.Need-slice_bounds-take_in-end
part-take-in-end c = let p = place c.before.before.before in omega (arith, p.ends, p.fits)

take-in-requires : tie.Need-take_in-requires
take-in-requires c κs =
    let s = c.before.before.before.before.before.before.before.before in
    let x = s.args in
    let k = counts c.before in
    let q = in_region (place c.before.before.before.before) (search rules) s.requires.1.1.long in
    let n = own_few x.item x.count (search rules) (search rules) in
    let fit = most_fits (row_of x.item) x.nq s.requires.1.1.few in (
      (omega (arith, n, k.own), omega (arith, n, k.own)),
      (rw (q, k.bound) (s.requires.1.1.heads x.item), rw (q, k.bound, region_long x.item x.cards.now (search rules) s.requires.1.1.long) (omega arith)),
    )

returns : tie.Need-returns
returns c =
    let s = c.before.before.before.before.before.before.before.before.before.before.before in
    let x = s.args in
    let p = place c.before.before.before.before.before.before.before in
    let k = counts c.before.before.before.before in
    let q = in_region p (search rules) s.requires.1.1.long in
    let n = own_few x.item x.count (search rules) (search rules) in
    let t = c.take_in in
    rw (p.wide, p.begins)
    (takes x.item x.nq x.count x.values.now x.cards.now (search rules) s.requires.1.1 (omega (arith, n)) s.requires.1.0 (refusal_in t.result) t.new.region
    (rw (q, k.own, k.bound) at t.ensures.0) (rw (q, k.own, k.bound) at t.ensures.1))

pub take_values_spec : {M : Type 1} → statement M
take_values_spec =
    tie.close
    (tie.spec
    (λ c κs. search rules) (λ c. search rules) (λ c κs. search rules) sub-room sub-room-2 (λ c κs. search rules) (λ c κs. search rules)
    (λ c κs. search rules) mul-take-in sub-take-in part-take-in-start part-take-in-end take-in-requires (λ c. search rules) returns)
