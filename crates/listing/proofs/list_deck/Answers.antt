-- What the engine answers prints the deck's listing, by `accepted_prints` and `refused_prints`: the records of no more blocks and ratios than are lent for, or the one line.
use mathlib.Core.Path.{◌≡◌, refl, sym}
use Prim.Native.Nat.{◌≤◌}
use native.Mathlib.Omega.{arith}
use lib.ListN.{length}
use lib.Seq.{length-take-le}
use borrow.Author.Rules.{rules}
use Rattle.text.specs.Counted.{written_counted}
use Rattle.listing.specs.Printed.{few_roomy, accepted_few, accepted_prints, refused_prints}
use Rattle.listing.proofs.list_deck.Goals as goal

pub write_listing-requires : goal.write_listing-requires
write_listing-requires c =
    let r = c.run_listed-ran in
    few_roomy _ _
    (accepted_few c.args.deck.now r.result.answer r.ensures.records_after (omega arith) (omega arith) (omega arith) {nq = c.in-Ok.accepted.ordinates} {blocks = c.in-Ok.accepted.blocks} {count = c.in-Ok.accepted.ratios} c.in-Ok.is (omega arith) r.ensures.listed.0)
    _ _ (omega arith) (omega arith)

pub returns-in-Ok : goal.returns-in-Ok
returns-in-Ok c =
    let r = c.run_listed-ran in
    let w = c.write_listing.ensures in
    let printed =
    accepted_prints c.args.deck.now r.result.answer r.ensures.records_after (omega arith) (omega arith) (omega arith) {nq = c.in-Ok.accepted.ordinates} {blocks = c.in-Ok.accepted.blocks} {count = c.in-Ok.accepted.ratios} c.in-Ok.is w (omega arith) r.ensures.listed.0 in
    record { listed = printed; counted = written_counted w }

pub returns-in-Err : goal.returns-in-Err
returns-in-Err c =
    let r = c.run_listed-ran in
    let w = c.write_refusal.ensures in
    let printed =
    refused_prints c.args.deck.now r.result.answer r.ensures.records_after (omega arith) (omega arith) (omega arith) c.in-Err.is w refl refl in
    record { listed = printed; counted = written_counted w }
