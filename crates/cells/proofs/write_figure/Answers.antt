-- The comma, and behind it the figure as the measure asks; either has room.
use Prim.Native.Nat.{◌/◌}
use native.Mathlib.Omega.{arith}
use Rattle.text.specs.Digits.{whole_within, length-six_places}
use Rattle.text.specs.Written.{written_more}
use Rattle.cells.proofs.write_figure.Goals as goal

pub write_whole-requires : goal.write_whole-requires
write_whole-requires c = omega (arith, whole_within c.args.units)

pub write_six_places-requires : goal.write_six_places-requires
write_six_places-requires c =
    let x = c.args.millionths in
    omega (arith, length-six_places x, whole_within (x / 1_000_000))

pub returns-in-Units : goal.returns-in-Units
returns-in-Units c =
    rw c.in-Units.is (written_more (omega arith) c.write_byte-next.ensures c.write_whole.ensures)

pub returns-in-Customary : goal.returns-in-Customary
returns-in-Customary c =
    rw c.in-Customary.is (written_more (omega arith) c.write_byte-next.ensures c.write_six_places.ensures)
