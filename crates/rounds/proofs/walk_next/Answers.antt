-- What the round is lent begins within what the run has, and is zeros; what the walk leaves in it is the next round's.
use Rattle.std.proofs.Common.{rules, ◌≡◌, ◌+◌, ◌-◌, ◌≤◌, ◌++◌, ℕ, Bool, List, length, take, drop, replicate, is_err, refl, sym, ap, ◌∙◌, arith}
use Rattle.sequences.specs.Parts.{part, length_part, put_tail}
use Rattle.blocks.specs.Meant.{ratios_is}
use Rattle.lending.specs.Lent.{ordinates_from, records_from, ordinates_within, records_within, zeros-part, cleared_drop, cleared_take}
use Rattle.rounds.specs.Rounds.{records-zeros, round_more}
use Rattle.rounds.proofs.walk_next.Goals as goal

ordinates-begin : (a : ℕ) (refused : Bool) (ratio place n : ℕ) → a ≡ ordinates_from refused ratio place n → a ≤ n
ordinates-begin a refused ratio place n e = rw e (ordinates_within refused ratio place n)

records-begin : (b : ℕ) (refused : Bool) (blocks place m : ℕ) → b ≡ records_from refused blocks place m → b ≤ m
records-begin b refused blocks place m e = rw e (records_within refused blocks place m)

pub clear_from-requires : goal.clear_from-requires
clear_from-requires c = ordinates-begin _ _ _ _ _ c.ordinates_from-from.ensures

pub offset_bounds-ordinates-from : goal.offset_bounds-ordinates-from
offset_bounds-ordinates-from c =
    let h = ordinates-begin _ _ _ _ _ c.ordinates_from-from.ensures in
    let begin : c.ordinates_from-from.result ≤ length c.clear_from.new.ordinates = omega (arith, h, c.clear_from.auto.ordinates) in
    search rules

pub slice_bounds-walk_deck-count : goal.slice_bounds-walk_deck-count
slice_bounds-walk_deck-count c = let h = ordinates-begin _ _ _ _ _ c.ordinates_from-from.ensures in omega (arith, h, c.clear_from.auto.ordinates)

pub slice_bounds-walk_deck-start : goal.slice_bounds-walk_deck-start
slice_bounds-walk_deck-start c = let h = ordinates-begin _ _ _ _ _ c.ordinates_from-from.ensures in omega (arith, h, c.clear_from.auto.ordinates)

pub slice_bounds-walk_deck-count-2 : goal.slice_bounds-walk_deck-count-2
slice_bounds-walk_deck-count-2 c = records-begin _ _ _ _ _ c.records_from-behind.ensures

pub slice_bounds-walk_deck-start-2 : goal.slice_bounds-walk_deck-start-2
slice_bounds-walk_deck-start-2 c = records-begin _ _ _ _ _ c.records_from-behind.ensures

pub walk_deck-walked-requires-clause-ordinates_value : goal.walk_deck-walked-requires-clause-ordinates_value
walk_deck-walked-requires-clause-ordinates_value c =
    let x = c.args in
    let a = c.ordinates_from-from.result in
    let b = c.records_from-behind.result in
    let cleared = c.clear_from.new.ordinates in
    let begin = ordinates-begin _ _ _ _ _ c.ordinates_from-from.ensures in
    let os = cleared_drop a x.ordinates.now cleared begin c.clear_from.auto.ordinates c.clear_from.ensures in
    let rs : drop b x.records.now ≡ replicate (length x.records.now - b) 0 =
    rw c.records_from-behind.ensures
    (records-zeros x.deck.now x.wanted (length x.ordinates.now) (length x.records.now) x.place x.ordinates.now x.records.now refl x.found c.requires.rounds) in
    (zeros-part a cleared os, zeros-part b x.records.now rs)

pub returns : goal.returns
returns c =
    let x = c.args in
    let w = c.walk_deck-walked in
    let n = length x.ordinates.now in
    let m = length x.records.now in
    let a = c.ordinates_from-from.result in
    let b = c.records_from-behind.result in
    let cleared = c.clear_from.new.ordinates in
    let kept = c.clear_from.auto.ordinates in
    let begin = ordinates-begin _ _ _ _ _ c.ordinates_from-from.ensures in
    let begin' = records-begin _ _ _ _ _ c.records_from-behind.ensures in
    let fits : a + (length cleared - a) ≤ length cleared = omega (arith, begin, kept) in
    let fits' : b + (m - b) ≤ m = omega (arith, begin') in
    let long : length (part a (length cleared - a) cleared) ≡ n - a = length_part a (length cleared - a) cleared fits ∙ ap (λ (k : ℕ). k - a) kept in
    let long' : length (part b (m - b) x.records.now) ≡ m - b = length_part b (m - b) x.records.now fits' in
    let walked = rw (long, long') at w.ensures in
    let lent = w.new.ordinates in
    let err : c.is_err.result ≡ is_err x.found = search rules in
    let from = rw err at c.ordinates_from-from.ensures in
    rw c.sooner.ensures
    (round_more x.deck.now x.wanted n m x.place x.ordinates.now lent _ x.records.now _ _ refl refl x.found w.result.worked c.requires.rounds c.requires.place_bound.0
    a b from c.records_from-behind.ensures (ratios_is w.result.ratios) walked.worked (w.auto.ordinates ∙ long)
    (put_tail a cleared lent ∙ ap (λ (l : List ℕ). l ++ lent) (cleared_take a x.ordinates.now cleared begin c.clear_from.ensures))
    (put_tail b x.records.now _))
