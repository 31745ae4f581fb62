-- The text of a cell.
--     measure_is     a measure as the definitions have it
--     figure_text    a figure in a measure, where it is given in both
--     depth_figure, flow_figure   a depth and a flow are such figures
--     share_by       the share of an interval by its excess
use Rattle.std.specs.Prelude.{ℕ, ◌-◌, ◌*◌, ◌≡◌, refl, ◌&&◌, List, [], ◌++◌, length, get_or}
use Rattle.meaning.specs.Words.{◌≤?◌, ◌<?◌, when◌then◌else◌, bytes}
use Rattle.meaning.specs.Listing.{whole}
use Rattle.meaning.specs.Sheet as sheet
use Rattle.meaning.specs.Sheet.{six_places, inch_millionths, cfs_millionths, depth_text, flow_text}
use Rattle.cells.specs.declared.Measure.{Measure}
use Rattle.cells.specs.declared.Measure.TheVariants as measure

abbrev pub measure_is : Measure → sheet.Measure
measure_is measure.Units = sheet.Units
measure_is measure.Customary = sheet.Customary

abbrev pub cell : List ℕ → List ℕ
cell text = bytes "," ++ text

abbrev pub figure_text : sheet.Measure → (units millionths : ℕ) → List ℕ
figure_text sheet.Units units millionths = whole units
figure_text sheet.Customary units millionths = six_places millionths

pub depth_figure : (m : sheet.Measure) (depth : ℕ) → depth_text m depth ≡ figure_text m depth (inch_millionths depth)
depth_figure sheet.Units depth = refl
depth_figure sheet.Customary depth = refl

pub flow_figure : (m : sheet.Measure) (flow : ℕ) → flow_text m flow ≡ figure_text m flow (cfs_millionths flow)
flow_figure sheet.Units flow = refl
flow_figure sheet.Customary flow = refl

abbrev pub depths_text : sheet.Measure → (rain loss excess : ℕ) → List ℕ
depths_text m rain loss excess = cell (depth_text m rain) ++ cell (depth_text m loss) ++ cell (depth_text m excess)

-- Of interval k at ordinate i, both from 0.
unfoldable pub share_by : sheet.Measure → (units : List ℕ) → (excess k i : ℕ) → List ℕ
share_by m units excess k i = when (k ≤? i) && ((i - k) <? length units) then flow_text m (get_or units (i - k) 0 * excess) else []
