-- The rows from a place on have the key where all of them do.
use mathlib.Core.Path.{◌≡◌, refl, sym, ◌∙◌}
use Rattle.std.proofs.Common.{rules}
use Rattle.records.specs.Rows.{items}
use Rattle.records.specs.Keys.{place_of, place_found, place-next, place_none}
use Rattle.records.proofs.place_of.Goals as goal

pub loop-i-init : goal.loop-i-init
loop-i-init c = refl

pub returns-then-key-key_at : goal.returns-then-key-key_at
unfolding place_of
returns-then-key-key_at c =
    let k = c.args.key in
    let l = c.loop-i in
    (sym (place_found k l.i (search rules) (c.if-key-key_at.true ∙ c.key_at.ensures)) ∙ l.invariant, search rules)

pub loop-i-preserved : goal.loop-i-preserved
loop-i-preserved c =
    let k = c.args.key in
    let l = c.loop-i in
    place-next k l.i (search rules) (λ e. c.if-key-key_at.false (e ∙ sym c.key_at.ensures)) ∙ l.invariant

pub returns : goal.returns
unfolding place_of
returns c =
    let l = c.loop-i in
    let end : l.i ≡ items = search rules in
    (sym (place_none c.args.key l.i (search rules) ∙ end) ∙ l.invariant, search rules)
