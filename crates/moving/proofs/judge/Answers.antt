-- The refusals in the definition's order: the length, what a pass over the records finds, the room for as many bytes as are moved.
use Rattle.std.proofs.Common.{ap, ◌∙◌}
use Rattle.forms.specs.Fault.{fault_is}
use Rattle.moving.specs.Directions.{or_first}
use Rattle.moving.specs.Outcomes.{way_judged}
use Rattle.moving.proofs.judge.Goals as goal

pub returns : goal.returns
returns g c =
    let x = c.args in
    way_judged g.met.D.Direction.is_way x.file.now x.room (rw c.SIZE.ensures at c.if-size-SIZE-ne0.false) c.find_fault-fault.ensures (rw (c.SIZE-2.ensures, c.TO.ensures) at c.check_room-short.ensures)
    (ap fault_is c.or.ensures ∙ or_first c.find_fault-fault.result c.check_room-short.result)
