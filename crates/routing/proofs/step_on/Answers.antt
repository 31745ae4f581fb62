-- `routing::step_on` meets its contract. Of the ordinates the first are outflows and the rest are still inflows, of which the work left makes the outflows of the step.
use Prim.Native.Nat.{ℕ, ◌≤◌, ◌+◌, ◌/◌}
use mathlib.Core.Path.{refl, ◌∙◌}
use mathlib.Core.List.{List}
use native.Mathlib.Omega.{arith}
use lib.ListN.{get_or}
use Rattle.sequences.specs.Bounds.{bound_set}
use Rattle.meaning.specs.Water.{flow_limit}
use Rattle.routing.specs.Soundness.{Sound}
use Rattle.routing.specs.Limits.{Ordinate, outflow_within, remainder_within}
use Rattle.routing.specs.Turns.{stepped_turn}
use Rattle.routing.proofs.step_on.Invariants.{Inv}
use Rattle.routing.proofs.step_on.Goals as goal

ordinate : (a b c : ℕ) {first : ℕ} {q₀ q : List ℕ} {x o r i : ℕ} → Sound a b c → Inv a b c first q₀ q x o r i → Ordinate a b c x (get_or q i 0) o r
ordinate a b c {i = i} s v = record { sound = s; old_in_up = v.in_up; new_in_up = v.flows i; old_out_up = v.out_up; remainder_up = v.remainder_up }

pub weigh-t-requires : goal.weigh-t-requires
weigh-t-requires c = ordinate _ _ _ c.requires.sound.0 c.loop-flow.invariant

pub loop-flow-preserved : goal.loop-flow-preserved
loop-flow-preserved c =
    let w = c.args.w in
    let l = c.loop-flow in
    let v = l.invariant in
    let e = c.weigh-t.ensures in
    let t = c.weigh-t.result in
    let x = get_or l.q l.flow-index 0 in
    let n = ordinate w.a w.b w.c c.requires.sound.0 v in
    let o : t / (w.a + w.c) ≤ flow_limit = rw e (outflow_within w.a w.b w.c l.old_in x l.old_out l.remainder n) in
    record {
      in_up = v.flows l.flow-index;
      out_up = o;
      remainder_up = rw e (remainder_within w.a w.b w.c l.old_in x l.old_out l.remainder n);
      flows = bound_set flow_limit l.q l.flow-index _ v.flows o;
      done = stepped_turn w.a w.b w.c l.q l.flow-index l.old_in l.old_out l.remainder t _ _ _ _ (omega arith) e refl refl refl refl ∙ v.done;
    }
