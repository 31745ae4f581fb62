-- The ordinates lent begin within those of the run, and what the walk leaves in them is the first round's.
use Rattle.std.proofs.Common.{rules, ◌≡◌, ◌+◌, ◌-◌, ◌≤◌, ℕ, false, length, refl, ◌∙◌, arith}
use Rattle.sequences.specs.Parts.{length_part, put_tail}
use Rattle.lending.specs.Lent.{ordinates_from, ordinates_within, zeros-part, zeros-drop}
use Rattle.rounds.specs.Rounds.{round_first}
use Rattle.rounds.proofs.walk_first.Goals as goal

within : (a ratio n : ℕ) → a ≡ ordinates_from false ratio 0 n → a ≤ n
within a ratio n e = rw e (ordinates_within false ratio 0 n)

pub offset_bounds-ordinates-from : goal.offset_bounds-ordinates-from
offset_bounds-ordinates-from c = let h = within _ _ _ c.ordinates_from-from.ensures in search rules

pub slice_bounds-walk_deck-count : goal.slice_bounds-walk_deck-count
slice_bounds-walk_deck-count c = within _ _ _ c.ordinates_from-from.ensures

pub slice_bounds-walk_deck-start : goal.slice_bounds-walk_deck-start
slice_bounds-walk_deck-start c = within _ _ _ c.ordinates_from-from.ensures

pub walk_deck-requires-clause-ordinates_value : goal.walk_deck-requires-clause-ordinates_value
walk_deck-requires-clause-ordinates_value c =
    let p = c.requires.ordinates_value in
    let a = c.ordinates_from-from.result in
    (zeros-part a _ (zeros-drop a _ p.0), p.1)

pub returns : goal.returns
returns c =
    let x = c.args in
    let w = c.walk_deck in
    let a = c.ordinates_from-from.result in
    let n = length x.ordinates.now in
    let below = within _ _ _ c.ordinates_from-from.ensures in
    let fits : a + (n - a) ≤ n = omega (arith, below) in
    let long = length_part a (n - a) x.ordinates.now fits in
    round_first x.deck.now x.wanted n (length x.records.now) w.result x.ordinates.now w.new.ordinates _ _ refl
    a c.ordinates_from-from.ensures (w.auto.ordinates ∙ long) (put_tail a x.ordinates.now _) (rw long at w.ensures)
