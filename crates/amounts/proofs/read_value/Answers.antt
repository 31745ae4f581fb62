-- The number that was read is the field's, so it is small, and its value is the field's.
use Rattle.std.proofs.Common.{rules}
use mathlib.Core.Path.{◌∙◌, ap}
use Rattle.meaning.specs.Numbers.{in_units}
use Rattle.amounts.specs.SmallNumbers.{number_small}
use Rattle.amounts.proofs.read_value.Goals as goal

pub in_units-requires : goal.in_units-requires
in_units-requires c =
    let read = rw c.in-Some.is at c.read_number.ensures in
    let small = rw (← read) at (number_small c.args.f.now) in
    (search rules, small.0)

pub returns-in-Some : goal.returns-in-Some
returns-in-Some c = c.in_units.ensures ∙ ap (in_units _) (rw c.in-Some.is at c.read_number.ensures)

pub returns-in-None : goal.returns-in-None
unfolding in_units
returns-in-None c = ap (in_units _) (rw c.in-None.is at c.read_number.ensures)
