-- How much room cells take: whatever the figure, at most cell_size bytes.
use Rattle.std.specs.Prelude.{ℕ, ◌+◌, ◌-◌, ◌*◌, ◌/◌, ◌≤◌, List, [], Bool, true, false, ◌&&◌, length, get_or}
use Rattle.std.proofs.Common.{arith, length-append}
use Rattle.text.specs.Digits.{whole_within, length-six_places}
use Rattle.text.specs.Written.{Written}
use Rattle.meaning.specs.Words.{◌≤?◌, ◌<?◌, when◌then◌else◌}
use Rattle.meaning.specs.Listing.{whole}
use Rattle.meaning.specs.Sheet.{Measure, Units, Customary, depth_text, flow_text, inch_millionths, cfs_millionths}
use Rattle.cells.specs.Sizes.{cell_size, depths_size}
use Rattle.cells.specs.Cells.{cell, figure_text, depths_text, share_by, depth_figure, flow_figure}

pub count_short : (x : ℕ) → length (cell (whole x)) ≤ cell_size
count_short x = omega (arith, whole_within x)

pub figure_short : (m : Measure) (units millionths : ℕ) → length (cell (figure_text m units millionths)) ≤ cell_size
figure_short Units units millionths = count_short units
figure_short Customary units millionths = omega (arith, length-six_places millionths, whole_within (millionths / 1_000_000))

pub depth_short : (m : Measure) (depth : ℕ) → length (cell (depth_text m depth)) ≤ cell_size
depth_short m depth = rw (depth_figure m depth) (figure_short m depth (inch_millionths depth))

pub flow_short : (m : Measure) (flow : ℕ) → length (cell (flow_text m flow)) ≤ cell_size
flow_short m flow = rw (flow_figure m flow) (figure_short m flow (cfs_millionths flow))

pub depths_short : (m : Measure) (rain loss excess : ℕ) → length (depths_text m rain loss excess) ≤ depths_size
depths_short m rain loss excess = simp length-append (omega (arith, depth_short m rain, depth_short m loss, depth_short m excess))

-- the same by the place behind a count, and behind the depths
pub behind-count : (x : ℕ) {at behind : ℕ} {out next : List ℕ} → Written out at (cell (whole x)) next behind → behind ≤ at + cell_size
behind-count x w = omega (arith, w.place, count_short x)

pub behind_depths : (m : Measure) (rain loss excess : ℕ) {at behind : ℕ} {out next : List ℕ} → Written out at (depths_text m rain loss excess) next behind → behind ≤ at + depths_size
behind_depths m rain loss excess w = omega (arith, w.place, depths_short m rain loss excess)

pub share_short : (m : Measure) (units : List ℕ) (excess k i : ℕ) → length (cell (share_by m units excess k i)) ≤ cell_size
unfolding share_by when◌then◌else◌
share_short m units excess k i = by_test ((k ≤? i) && ((i - k) <? length units)) (flow_text m (get_or units (i - k) 0 * excess)) (flow_short m (get_or units (i - k) 0 * excess))
  where
    by_test : (t : Bool) (text : List ℕ) → length (cell text) ≤ cell_size → length (cell (when t then text else [])) ≤ cell_size
    by_test true text h = h
    by_test false text h = omega arith
