-- After some turns the sums of the first columns are written, each within its cell.
use Rattle.std.proofs.Common.{ℕ, ◌≡◌, ◌∙◌, length, get_or, arith}
use Rattle.meaning.specs.Sheet.{flow_text, sum_line}
use Rattle.text.specs.Written.{written_more}
use Rattle.cells.specs.Cells.{measure_is}
use Rattle.sheets.specs.Lines.{cells_more}
use Rattle.sheets.specs.Room.{flows_short}
use Rattle.sheets.proofs.write_sums.Goals as goal

pub write_flow-at-requires : goal.write_flow-at-requires
write_flow-at-requires c =
    let x = c.args in
    let l = c.loop-sum in
    omega (arith, l.invariant.1.place, flows_short (measure_is x.measure) x.sums.now l.sum-index, c.write_text-at.ensures.place)

pub loop-sum-preserved : goal.loop-sum-preserved
loop-sum-preserved c =
    let x = c.args in
    let l = c.loop-sum in
    let written = c.write_flow-at in (
      written.auto.out ∙ l.invariant.0,
      rw (cells_more (λ (i : ℕ). flow_text (measure_is x.measure) (get_or x.sums.now i 0)) l.sum-index)
          (written_more (omega (arith, l.invariant.1.place, flows_short (measure_is x.measure) x.sums.now l.sum-index, c.write_text-at.ensures.place)) l.invariant.1 written.ensures),
    )

pub write_byte-requires : goal.write_byte-requires
write_byte-requires c =
    let x = c.args in
    let l = c.loop-sum in
    omega (arith, l.invariant.1.place, flows_short (measure_is x.measure) x.sums.now l.sum-index, c.write_text-at.ensures.place)

pub returns : goal.returns
unfolding sum_line
returns c =
    let x = c.args in
    let l = c.loop-sum in
    let all : l.sum-index ≡ length x.sums.now = omega arith in
    written_more (omega (arith, l.invariant.1.place, flows_short (measure_is x.measure) x.sums.now l.sum-index, c.write_text-at.ensures.place))
    (written_more (omega arith) c.write_text-at.ensures (rw all at l.invariant.1)) c.write_byte.ensures
