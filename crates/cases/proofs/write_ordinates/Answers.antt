-- After i turns the first i ordinates are written, at most 21 bytes each.
use mathlib.Core.Path.{refl, ◌∙◌}
use native.Mathlib.Omega.{arith}
use lib.ListN.{get_or}
use lib.Seq.{take_all}
use Rattle.text.specs.Written.{written_none, written_more}
use Rattle.cases.specs.Fronts.{number_short, numbers_more}
use Rattle.cases.proofs.write_ordinates.Goals as goal

pub loop-i-init : goal.loop-i-init
loop-i-init c = (omega arith, omega arith, refl, written_none _ _)

pub loop-i-preserved : goal.loop-i-preserved
loop-i-preserved c =
    let written = c.write_ordinate-at in
    let l = c.loop-i in
    let ordinates = c.args.ordinates.now in
    let short = number_short l.i (get_or ordinates l.i 0) (grind arith) in (
      omega arith,
      omega (arith, written.ensures.place),
      written.auto.out ∙ l.invariant.2,
      rw (numbers_more l.i ordinates (omega arith)) (written_more (omega arith) l.invariant.3 written.ensures),
    )

pub returns : goal.returns
returns c =
    let l = c.loop-i in
    let ordinates = c.args.ordinates.now in
    let all = take_all l.i ordinates c.loop-i-test.false in
    let end = c.write_byte.ensures in record { text = written_more (omega arith) (rw all at l.invariant.3) end; short = omega (arith, end.place) }
