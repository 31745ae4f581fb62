-- A figure that was written, as the depth or the flow that it is.
use Rattle.std.specs.Prelude.{ℕ, ◌≡◌, List}
use Rattle.text.specs.Written.{Written}
use Rattle.meaning.specs.Sheet.{Measure, inch_millionths, cfs_millionths, depth_text, flow_text}
use Rattle.cells.specs.Cells.{cell, figure_text, depth_figure, flow_figure}

module _ (m : Measure) where
  pub depth_here : (depth : ℕ) {millionths at behind : ℕ} {out next : List ℕ} → Written out at (cell (figure_text m depth millionths)) next behind
      → millionths ≡ inch_millionths depth → Written out at (cell (depth_text m depth)) next behind
  depth_here depth w rounded = rw (depth_figure m depth, ← rounded) w

  pub flow_here : (flow : ℕ) {millionths at behind : ℕ} {out next : List ℕ} → Written out at (cell (figure_text m flow millionths)) next behind
      → millionths ≡ cfs_millionths flow → Written out at (cell (flow_text m flow)) next behind
  flow_here flow w rounded = rw (flow_figure m flow, ← rounded) w
