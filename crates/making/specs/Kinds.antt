-- What a block of each kind that was read and is not refused gives to the functions of water.
use Rattle.std.specs.Prelude.{ℕ, None, Some, ◌+◌, ◌*◌, ◌≤◌, ◌≡◌, refl, Bool, true, false, length}
use Rattle.std.proofs.Common.{ap, ◌∙◌, arith}
use Rattle.meaning.specs.Words.{when◌then◌else◌}
use Rattle.meaning.specs.Records.{PI, UI, HC, PB, table}
use Rattle.meaning.specs.Water.{ten_thousandth}
use Rattle.meaning.specs.Blocks.{Time, Block, Kind, Confluence, takes_by, combined, is_given, card_of, storm_total, rain_values, unit_ordinates}
use Rattle.limits.specs.Within.{TimeWithin}
use Rattle.kinds.specs.Kinds.{kind_must}
use Rattle.excess.specs.declared.Loss.{Loss}
use Rattle.routing.specs.Soundness.{Reach}
use Rattle.excess.specs.Storms.{TotalWithin}
use Rattle.runoff.specs.Storm.{StormWithin}
use Rattle.units.specs.declared.Depth.{Depth}
use Rattle.stack.specs.View.{Fits}
use Rattle.stack.specs.Limits.{Added}
use Rattle.stack.specs.Kinds.{block_storm}
use Rattle.shaping.specs.Limits.{CardsWithin}
use Rattle.shaping.specs.Shapes.{Shaped, shaped_passes}

total_up : (t : Bool) (total : Depth) → total.0 ≤ 60_000_000 → TotalWithin (when t then Some total else None)
unfolding when◌then◌else◌
total_up true total up = up
total_up false total up = tt

pub storm-read : (τ : Time) (b : Block) → TimeWithin τ → CardsWithin b → length (unit_ordinates b) ≤ 150
    → StormWithin (unit_ordinates b) (rain_values b) (block_storm τ b) τ.ordinates
storm-read τ b time cards few =
    record {
      few = few;
      units_up = (cards UI).high;
      rains_up = (cards PI).high;
      total_up = total_up (is_given (card_of PB b)) (record { 0 = storm_total b * ten_thousandth }) (omega (arith, (cards PB).high 0));
      ratio_up = time.small-ratio;
      intervals_up = time.few_ordinates;
    }

-- a block that takes none finds room for one more
pub room_for_one : {k : Kind} (τ : Time) (b : Block) (d words : ℕ) → takes_by k b ≡ 0 → Shaped k τ b d → Fits d τ.ordinates words → Fits (d + 1) τ.ordinates words
room_for_one τ b d words none s f = let p = shaped_passes τ b d s in record { deep = omega (arith, p.room, none); ordinates = f.ordinates; enough = f.enough }

pub joins_read : (τ : Time) (b : Block) (d : ℕ) → CardsWithin b → length b.cards ≡ length table → Shaped Confluence τ b d → Added (combined b) d
unfolding when◌then◌else◌
joins_read τ b d cards long s =
    let given = kind_must b Confluence HC refl (λ e. omega arith) (omega arith) s.is in
    record { some = (cards HC).low given 0 (omega arith); few = (cards HC).high 0; held = (shaped_passes τ b d s).enough }

-- a loss is its two depths
pub loss_is : (l : Loss) (initial uniform : ℕ) → l.initial.0 ≡ initial → l.uniform.0 ≡ uniform
    → l ≡ record { initial = record { 0 = initial }; uniform = record { 0 = uniform } }
loss_is l initial uniform p q =
    ap (λ (x : ℕ). record { initial = record { 0 = x }; uniform = l.uniform }) p
    ∙ ap (λ (y : ℕ). record { initial = record { 0 = initial }; uniform = record { 0 = y } }) q

-- numbers that are a reach's own
pub same_reach : {n k x : ℕ} {m : ℕ} → Reach n m k x → (n' k' x' : ℕ) → n' ≡ n → k' ≡ k → x' ≡ x → Reach n' m k' x'
same_reach r n' k' x' p q s = rw (p, q, s) r
