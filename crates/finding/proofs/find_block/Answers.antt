-- Each KK is a turn of the search, and goes on further behind in the deck; then the next KK or the ZZ closes the block. A refused line, and a deck without ZZ, has no block behind it.
use Rattle.std.specs.Prelude.{◌-◌, ◌+◌, ◌≡◌}
use Rattle.std.proofs.Common.{⊎_elim, arith}
use Rattle.finding.specs.Seeking.{starts, refused, missing, kk_here, zz_here, not_there, next_kk}
use Rattle.finding.proofs.find_block.Goals as goal

pub loop-init : goal.loop-init
loop-init c =
    let z : c.args.number - 0 ≡ c.args.number = omega arith in
    rw z (starts c.args.deck.now c.args.number c.first_reading-r.result c.first_reading-r.new.cards c.first_reading-r.ensures)

pub read_on-got-requires-clause-from_in_bounds : goal.read_on-got-requires-clause-from_in_bounds
read_on-got-requires-clause-from_in_bounds c = (c.loop.invariant.up, c.loop.invariant.counted)

pub read_on-got-requires-clause-ready : goal.read_on-got-requires-clause-ready
read_on-got-requires-clause-ready c = c.loop.invariant.ready

pub returns-in_default : goal.returns-in_default
returns-in_default c = not_there c.loop.invariant c.read_on-got.result c.read_on-got.new.cards c.read_on-got.ensures (λ z. absurd (omega arith)) c.in_default.not-Opened

pub loop-preserved : goal.loop-preserved
loop-preserved c =
    let e : c.args.number - (c.loop.counter + 1) ≡ c.args.number - c.loop.counter - 1 = omega arith in
    rw e
    (next_kk c.loop.invariant c.read_on-got.result c.read_on-got.new.cards c.read_on-got.ensures (λ z. absurd (omega arith)) c.in-Opened.name c.in-Opened.is c.open_block-r.ensures)

pub read_on-got-requires-2-clause-from_in_bounds : goal.read_on-got-requires-2-clause-from_in_bounds
read_on-got-requires-2-clause-from_in_bounds c = (c.loop.invariant.up, c.loop.invariant.counted)

pub read_on-got-requires-2-clause-ready : goal.read_on-got-requires-2-clause-ready
read_on-got-requires-2-clause-ready c = c.loop.invariant.ready

pub returns-in-Opened-event : goal.returns-in-Opened-event
returns-in-Opened-event c =
    let g = c.loop.invariant in
    let h = c.read_on-got-2.ensures in
    let none : c.args.number - c.loop.counter ≡ 0 = omega arith in
    rw c.open_in.ensures
    (⊎_elim
    (λ w. let f = rw w.1 at h.found in let o = rw w.1 at h.onward in kk_here g o.0.ready f none)
    (λ w. let f = rw w at h.found in let o = rw w at h.onward in zz_here g o.ready f none)
    c.in-Opened-event.is)

pub returns-in-Refused : goal.returns-in-Refused
returns-in-Refused c =
    let f = rw c.in-Refused.is at c.read_on-got-2.ensures.found in
    refused c.loop.invariant c.read_on-got-2.new.cards f.2

pub returns-in-Missing : goal.returns-in-Missing
returns-in-Missing c =
    let f = rw c.in-Missing.is at c.read_on-got-2.ensures.found in
    missing c.loop.invariant c.read_on-got-2.new.cards f.2
