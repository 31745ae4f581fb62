-- Each event is a turn of the walk: a refused line and a missing ZZ stop it, KK and ZZ are turns by their own laws.
use Rattle.std.proofs.Common.{◌≡◌, Err, refl, sym, ◌∙◌, rules}
use Rattle.walking.specs.Events.{walk-missing, walk_refused}
use Rattle.walking.specs.ReadingOn.{found-counted, may_close}
use Rattle.turns.specs.Turns.{stop_is, told}
use Rattle.walking.specs.NextTurn.{told_is, kk_turn, zz_turn}
use Rattle.walking.proofs.step.Goals as goal

pub close_open-closed-requires : goal.close_open-closed-requires
close_open-closed-requires c =
    let r = c.read_on-got in
    let f = rw c.in-Opened.is at r.ensures.found in
    let o = rw c.in-Opened.is at r.ensures.onward in
    may_close _ _ _ _ _ _ _ _ _ _ c.requires _ _ _ _ _ f o.0.ready

pub close_open-closed-requires-in-Ended : goal.close_open-closed-requires-in-Ended
close_open-closed-requires-in-Ended c =
    let r = c.read_on-got in
    let f = rw c.in-Ended.is at r.ensures.found in
    let o = rw c.in-Ended.is at r.ensures.onward in
    may_close _ _ _ _ _ _ _ _ _ _ c.requires _ _ _ _ _ f o.ready

pub returns-in_ok-next-in-Opened : goal.returns-in_ok-next-in-Opened
returns-in_ok-next-in-Opened c =
    let r = c.read_on-got in
    let k = c.close_open-closed in
    let f = rw c.in-Opened.is at r.ensures.found in
    let o = rw c.in-Opened.is at r.ensures.onward in
    let told-is : c.map_err-told.result ≡ told k.result = told_is _ _ c.map_err-told.ensures.cases in
    let opens = rw told-is at c.open_next.ensures in
    let turn =
    kk_turn _ _ _ _ _ _ _ _ _ _ c.requires _ _ r.result.at r.new.cards o.0.ready k.result _ _ _ k.ensures k.auto.work k.auto.ordinates k.auto.records
    c.in-Opened.name f o.0.within o.0.counted o.0.forth _ c.open_next.result opens in
    rw c.in_ok-next-in-Opened.was at turn

pub returns-in_ok-worked-in-Ended : goal.returns-in_ok-worked-in-Ended
returns-in_ok-worked-in-Ended c =
    let r = c.read_on-got in
    let k = c.close_open-closed-in-Ended in
    let f = rw c.in-Ended.is at r.ensures.found in
    let o = rw c.in-Ended.is at r.ensures.onward in
    let told-is : c.map_err-told-in-Ended.result ≡ told k.result = told_is _ _ c.map_err-told-in-Ended.ensures.cases in
    let ends = rw told-is at c.end_deck.ensures in
    let turn =
    zz_turn _ _ _ _ _ _ _ _ _ _ c.requires _ _ r.result.at r.new.cards o.ready k.result _ _ _ k.ensures k.auto.work k.auto.ordinates k.auto.records
    f _ c.end_deck.result ends in
    rw c.in_ok-worked-in-Ended.was at turn

pub returns-in-Missing : goal.returns-in-Missing
returns-in-Missing c =
    let f = rw c.in-Missing.is at c.read_on-got.ensures.found in
    let stops = rw c.number-in-Missing.ensures at c.stop-in-Missing.ensures in
    rw (stop_is _ _ _ stops)
    (sym c.requires.walked ∙ walk-missing _ _ _ _ _ f.0 f.1 f.2, found-counted _ _ _ _ _ _ _ _ _ _ c.requires _ f.2 refl)

pub returns-in_err-next-in-Opened : goal.returns-in_err-next-in-Opened
returns-in_err-next-in-Opened c =
    let r = c.read_on-got in
    let k = c.close_open-closed in
    let f = rw c.in-Opened.is at r.ensures.found in
    let o = rw c.in-Opened.is at r.ensures.onward in
    let told-is : c.map_err-told.result ≡ told k.result = told_is _ _ c.map_err-told.ensures.cases in
    let opens = rw told-is at c.open_next.ensures in
    let turn =
    kk_turn _ _ _ _ _ _ _ _ _ _ c.requires _ _ r.result.at r.new.cards o.0.ready k.result _ _ _ k.ensures k.auto.work k.auto.ordinates k.auto.records
    c.in-Opened.name f o.0.within o.0.counted o.0.forth _ c.open_next.result opens in
    let told = rw c.in_err-next-in-Opened.was at turn in
    let is : c.from_residual.result ≡ Err c.in_err-next-in-Opened.field-0.0 = search rules in
    rw is told

pub returns-in_err-worked-in-Ended : goal.returns-in_err-worked-in-Ended
returns-in_err-worked-in-Ended c =
    let r = c.read_on-got in
    let k = c.close_open-closed-in-Ended in
    let f = rw c.in-Ended.is at r.ensures.found in
    let o = rw c.in-Ended.is at r.ensures.onward in
    let told-is : c.map_err-told-in-Ended.result ≡ told k.result = told_is _ _ c.map_err-told-in-Ended.ensures.cases in
    let ends = rw told-is at c.end_deck.ensures in
    let turn =
    zz_turn _ _ _ _ _ _ _ _ _ _ c.requires _ _ r.result.at r.new.cards o.ready k.result _ _ _ k.ensures k.auto.work k.auto.ordinates k.auto.records
    f _ c.end_deck.result ends in
    let told = rw c.in_err-worked-in-Ended.was at turn in
    let is : c.from_residual-in_err-worked-in-Ended.result ≡ Err c.in_err-worked-in-Ended.field-0.0 = search rules in
    rw is told

pub returns-in-Refused : goal.returns-in-Refused
returns-in-Refused c =
    let f = rw c.in-Refused.is at c.read_on-got.ensures.found in
    let stops = rw c.number.ensures at c.stop.ensures in
    rw (stop_is _ _ _ stops)
    (sym c.requires.walked ∙ walk_refused _ _ _ _ _ _ f.0 _ f.1 f.2, found-counted _ _ _ _ _ _ _ _ _ _ c.requires _ f.2 refl)
