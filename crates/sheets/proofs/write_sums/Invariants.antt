-- After some turns the sums of the first columns are written, each within its cell.
use Rattle.std.proofs.Common.{ℕ, ◌≡◌, length, get_or}
use Rattle.meaning.specs.Sheet.{cells_from, flow_text}
use Rattle.text.specs.Written.{Written}
use Rattle.cells.specs.Cells.{measure_is}
use Rattle.sheets.proofs.write_sums.Given as goal

abbrev pub invariant-loop-sum : goal.invariant-loop-sum
invariant-loop-sum l =
    (length l.out ≡ length l.initial.out)
    × Written l.initial.out l.initial.at (cells_from (λ (i : ℕ). flow_text (measure_is l.fn.measure) (get_or l.fn.sums i 0)) 0 l.sum-index) l.out l.at
