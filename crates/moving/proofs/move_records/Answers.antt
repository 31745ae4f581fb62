-- The records before a place stand in the room before `n`, in their other form; those from it on are left.
use Rattle.std.proofs.Common.{ℕ, List, ◌≡◌, ◌≤◌, ◌+◌, ◌-◌, ◌<◌, ap, ◌∙◌, length, take, drop, drop-drop, length-drop, arith}
use Rattle.std.specs.List.{IsSplitAt}
use Rattle.sequences.specs.Parts.{part, put}
use Rattle.moving.specs.Loops.{moving_fits, moving_goes, moving_ends}
use Rattle.moving.proofs.move_records.Goals as goal

-- a record that is split off stands in the file
whole : (size p : ℕ) (file left record' behind : List ℕ) → p ≤ length file → left ≡ drop p file → IsSplitAt left size record' behind → p + size ≤ length file
whole size p file left record' behind inside from at =
    let some : length left ≡ length file - p = ap length from ∙ length-drop p file in
    omega (arith, at.0)

-- there is room for it
fits : (g : _) (c : goal.After-TO g) → c.loop-record.n + g.D.Direction.TO ≤ length c.args.room.now
fits g c =
    let w = g.met.D.Direction.is_way in
    let l = c.loop-record in
    let p = l.invariant.0 in
    let v = l.invariant.2 in
    let at = rw c.SIZE.ensures at c.in-Some.ensures.cases in
    moving_fits g.D.Direction.form g.D.Direction.SIZE g.D.Direction.TO w.some w.makes c.args.file.now c.args.room.now l.room p l.n v
    (whole g.D.Direction.SIZE p c.args.file.now l.left.now _ _ v.inside l.invariant.1 at) c.requires

pub overflow_add-n : goal.overflow_add-n
overflow_add-n g c = let room = fits g c in rw c.TO.ensures (omega (arith, room))

pub slice_bounds-put-end : goal.slice_bounds-put-end
slice_bounds-put-end g c = let room = fits g c in rw c.TO.ensures (omega (arith, room, c.loop-record.invariant.2.long))

pub loop-record-preserved : goal.loop-record-preserved
loop-record-preserved g c =
    let w = g.met.D.Direction.is_way in
    let l = c.loop-record in
    let p = l.invariant.0 in
    let from = l.invariant.1 in
    let v = l.invariant.2 in
    let size = g.D.Direction.SIZE in
    let to = g.D.Direction.TO in
    let at = rw c.SIZE.ensures at c.in-Some.ensures.cases in
    let file = c.args.file.now in
    let inside = whole size p file l.left.now _ _ v.inside from at in
    let room = moving_fits g.D.Direction.form size to w.some w.makes file c.args.room.now l.room p l.n v inside c.requires in
    let rest : c.in-Some.others.now ≡ drop (p + size) file = at.2 ∙ ap (drop size) from ∙ drop-drop size p file in
    let here : c.in-Some.record.now ≡ part p size file = at.1 ∙ ap (take size) from in
    let written : c.put.new.to ≡ g.D.Direction.form (part p size file) = c.put.ensures ∙ ap g.D.Direction.form here in
    let m : l.n + c.TO.result - l.n ≡ to = omega (arith, c.TO.ensures) in
    (p + size, rest, rw (m, c.TO-n.ensures) (moving_goes g.D.Direction.form size to w.some w.makes file c.args.room.now l.room p l.n v _ inside room (ap (put l.n to l.room) written)))

pub returns : goal.returns
returns g c =
    let w = g.met.D.Direction.is_way in
    let l = c.loop-record in
    let p = l.invariant.0 in
    let v = l.invariant.2 in
    let size = g.D.Direction.SIZE in
    let file = c.args.file.now in
    let short = rw c.SIZE.ensures at c.in_default.ensures.cases in
    let few : length l.left.now ≡ length file - p = ap length l.invariant.1 ∙ length-drop p file in
    let ends : length file < p + size = omega (arith, short, few, v.inside) in
    moving_ends g.D.Direction.form size g.D.Direction.TO w.some w.makes file c.args.room.now l.room p l.n v ends
