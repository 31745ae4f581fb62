-- After each turn one head more is 0.
use Prim.Native.Nat.{◌-◌, ◌≤◌}
use mathlib.Core.Path.{◌≡◌}
use lib.ListN.{length}
use Rattle.records.specs.Rows.{items}
use Rattle.blocks.specs.Clearing.{Clear}
use Rattle.blocks.proofs.clear.Given as goal

abbrev pub invariant-loop-item : goal.invariant-loop-item
invariant-loop-item l = (length l.cards ≡ length l.initial.cards) × Clear l.item l.cards
