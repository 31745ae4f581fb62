-- `stack::route_last` meets its contract: the part that was lent comes back routed, and the law of a reach gives the view.
use Prim.Native.Nat.{◌+◌, ◌-◌, ◌*◌}
use mathlib.Core.Path.{◌≡◌, ◌∙◌}
use native.Mathlib.Omega.{arith}
use lib.ListN.{length}
use Rattle.sequences.specs.Parts.{part, put, length_part}
use Rattle.meaning.specs.Water.{routed_of}
use Rattle.meaning.specs.Records.{most_ordinates}
use Rattle.routing.specs.Lengths.{length_routed}
use Rattle.stack.specs.View.{view_changed}
use Rattle.stack.specs.Limits.{last_within}
use Rattle.stack.proofs.route_last.Goals as goal

pub route-requires : goal.route-requires
route-requires c =
    let s = c in
    let x = s.args in
    let p = most_ordinates * (x.stack.depth - 1) in
    let lent : p + x.nq - p ≡ x.nq = omega arith in record { reach = omega (arith, s.requires.reach); all_up_to = rw lent (last_within x.stack x.nq x.work.now s.requires.le_depth.0 s.requires.within) }

pub returns : goal.returns
returns c =
    let s = c in
    let x = s.args in
    let w = x.work.now in
    let nq = x.nq in
    let p = most_ordinates * (x.stack.depth - 1) in
    let flow = routed_of x.n x.m x.k x.x (part p nq w) in
    let lent : p + nq - p ≡ nq = omega arith in
    let long : length flow ≡ nq = length_routed x.n x.m x.k x.x (part p nq w) ∙ length_part p nq w (omega arith) in
    let words : put p (p + nq - p) w c.route.new.q ≡ put p nq w flow = rw (c.route.ensures, lent) in record { work_after = words; held = rw words (view_changed (routed_of x.n x.m x.k x.x) nq w x.stack s.requires.le_depth.0 s.requires.le_depth.1 long) }
