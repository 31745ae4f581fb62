-- How large what is held after a block can be.
--     area_after       a block adds at most one card's area
--     within_after     every flow is within the limit again, where that of the new one is
use Rattle.std.specs.Prelude.{ℕ, ◌+◌, ◌≤◌, ◌≡◌, refl, List, length}
use Rattle.std.proofs.Common.{ap, arith}
use Rattle.meaning.specs.Water.{flow_limit, routed_of}
use Rattle.meaning.specs.Pool.{ponded_of}
use Rattle.meaning.specs.Records.{BA}
use Rattle.meaning.specs.Blocks.{Time, Block, Kind, NoKind, Basin, Inflow, Confluence, Reach, Pond, kind_of, takes, Held, total, combined, reach_k, reach_steps, reach_x, pond_rows}
use Rattle.meaning.specs.Results.{peak_of}
use Rattle.meaning.specs.Run.{held_for, held_after, shape_refusal}
use Rattle.stack.specs.Limits.{Within, within_drop, area_added, area_changed}
use Rattle.stack.specs.Kinds.{after-basin, after-inflow, after-confluence, after-reach, after-pond}
use Rattle.summary.specs.Peaks.{all_below_peak}
use Rattle.shaping.specs.Limits.{CardsWithin}
use Rattle.shaping.specs.Shapes.{Shaped, none_refused}

abbrev area_of : List Held → ℕ
area_of hs = (total hs).area

module _ (τ : Time) (b : Block) (held : List Held) (cards : CardsWithin b) (sound : shape_refusal τ b (length held) ≡ 0) where
  shaped : {k : Kind} → kind_of b ≡ k → Shaped k τ b (length held)
  shaped e = record { is = e; sound = sound }

  area_by : (k : Kind) → kind_of b ≡ k → (total (held_after τ b held)).area ≤ (total held).area + 999_999
  area_by NoKind e = absurd (none_refused τ b (length held) (shaped e))
  area_by Basin e = omega (arith, ap area_of (after-basin τ b held e), (cards BA).high 0)
  area_by Inflow e = omega (arith, ap area_of (after-inflow τ b held e), (cards BA).high 0)
  area_by Confluence e = omega (arith, ap area_of (after-confluence τ b held e), area_added (combined b) held)
  area_by Reach e = omega (arith, ap area_of (after-reach τ b held e), area_changed (routed_of (reach_steps b) τ.minutes (reach_k b) (reach_x b)) held)
  area_by Pond e = omega (arith, ap area_of (after-pond τ b held e), area_changed (ponded_of τ.minutes (pond_rows b)) held)

  pub area_after : (total (held_after τ b held)).area ≤ (total held).area + 999_999
  area_after = area_by (kind_of b) refl

pub within_after : (τ : Time) (b : Block) (held : List Held) → Within held → peak_of (held_for τ b held).flow ≤ flow_limit → Within (held_after τ b held)
within_after τ b held flows low = (all_below_peak (held_for τ b held).flow flow_limit low, within_drop (takes b) held flows)
