-- After i turns the shares in the first i ordinates are written, each within its cell.
use Rattle.std.proofs.Common.{◌≡◌, ◌∙◌, arith}
use Rattle.text.specs.Written.{written_more}
use Rattle.cells.specs.Cells.{measure_is, share_by}
use Rattle.sheets.specs.Lines.{cells_more}
use Rattle.sheets.specs.Room.{shares_short}
use Rattle.sheets.proofs.write_shares.Goals as goal

pub write_share-at-requires : goal.write_share-at-requires
write_share-at-requires c =
    let x = c.args in
    let l = c.loop-i in
    (c.requires.0, omega arith, omega (arith, l.invariant.1.place, shares_short (measure_is x.measure) x.units.now x.excess x.k l.i))

pub loop-i-preserved : goal.loop-i-preserved
loop-i-preserved c =
    let x = c.args in
    let l = c.loop-i in
    let written = c.write_share-at in (
      written.auto.out ∙ l.invariant.0,
      rw (cells_more (share_by (measure_is x.measure) x.units.now x.excess x.k) l.i)
          (written_more (omega (arith, l.invariant.1.place, shares_short (measure_is x.measure) x.units.now x.excess x.k l.i)) l.invariant.1 written.ensures),
    )

pub returns : goal.returns
returns c =
    let all : c.loop-i.i ≡ c.args.n = omega arith in
    rw all at c.loop-i.invariant.1
