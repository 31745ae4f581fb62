-- The records of an accepted deck lie within their room, by `accepted_fits`: there is a product of counts that fits, and what is lent on.
use Prim.Native.Nat.{ℕ, ◌≤◌, ◌*◌}
use mathlib.Core.Path.{◌≡◌, sym}
use mathlib.Core.List.{List}
use native.Mathlib.Omega.{arith}
use lib.ListN.{length}
use lib.Seq.{length-take-le}
use Rattle.meaning.specs.Run.{record_bytes}
use Rattle.store.specs.Kept.{accepted_fits}
use Rattle.store.proofs.keep_records.Goals as goal

pub overflow_mul-n : goal.overflow_mul-n
overflow_mul-n c = omega (arith, accepted_fits c.args.deck.now 0 0 _ c.run.result _ _ _ {nq = c.in-Ok.accepted.ordinates} {blocks = c.in-Ok.accepted.blocks} {ratios = c.in-Ok.accepted.ratios} c.run.ensures c.in-Ok.is)

pub overflow_mul-n-in-Ok : goal.overflow_mul-n-in-Ok
overflow_mul-n-in-Ok c = omega (arith, accepted_fits c.args.deck.now 0 0 _ c.run.result _ _ _ {nq = c.in-Ok.accepted.ordinates} {blocks = c.in-Ok.accepted.blocks} {ratios = c.in-Ok.accepted.ratios} c.run.ensures c.in-Ok.is)

pub slice_bounds-records-end : goal.slice_bounds-records-end
slice_bounds-records-end c = omega (arith, accepted_fits c.args.deck.now 0 0 _ c.run.result _ _ _ {nq = c.in-Ok.accepted.ordinates} {blocks = c.in-Ok.accepted.blocks} {ratios = c.in-Ok.accepted.ratios} c.run.ensures c.in-Ok.is)

pub slice_bounds-print-end : goal.slice_bounds-print-end
slice_bounds-print-end c =
    let short = accepted_fits c.args.deck.now 0 0 _ c.run.result _ _ _ {nq = c.in-Ok.accepted.ordinates} {blocks = c.in-Ok.accepted.blocks} {ratios = c.in-Ok.accepted.ratios} c.run.ensures c.in-Ok.is in
    let within : 40 * (c.in-Ok.accepted.blocks * c.in-Ok.accepted.ratios) ≤ length c.run.new.records = omega arith in
    sym (length-take-le _ _ within)
