-- After i turns the numbers of the first i ordinates are written, each within its cell.
use Rattle.std.proofs.Common.{ℕ, ◌+◌, ◌≡◌, length}
use Rattle.meaning.specs.Listing.{whole}
use Rattle.meaning.specs.Sheet.{cells_from}
use Rattle.text.specs.Written.{Written}
use Rattle.sheets.proofs.write_head.Given as goal

abbrev pub invariant-loop-i : goal.invariant-loop-i
invariant-loop-i l = (length l.out ≡ length l.initial.out) × Written l.initial.out l.initial.at (cells_from (λ (i : ℕ). whole (i + 1)) 0 l.i) l.out l.at
