-- The walk under one ratio, in the words of one list of held: a walk stands with one run, and a block closes by what that run holds.
--     time_at            the time control of a deck with the ratio at a place in force
--     standing          where a walk under one ratio stands
--     closing_under      9 to 13 and 18 to 20 of a block under one ratio
--     shape_under       9 to 12, 18 and 19 know no ratio
--     one_refusal, one_waiting    the refusal of a block that closes, and how many are held then
--     one_opens, one_ends         what a KK and the ZZ do to such a standing
use Rattle.std.specs.Prelude.{ℕ, ◌+◌, ◌≡◌, refl, List, [], ◌∷◌, ◌++◌, length}
use Rattle.std.proofs.Common.{arith, length-drop}
use Rattle.meaning.specs.Words.{first}
use Rattle.meaning.specs.Fields.{Form}
use Rattle.meaning.specs.Blocks.{Time, ratio_at, under, Block, Kind, NoKind, Basin, Inflow, Confluence, Reach, Pond, kind_of, Held, takes, patternless, broken_by, broken}
use Rattle.meaning.specs.Results.{Result}
use Rattle.meaning.specs.Run.{Reading, InBlock, Open, End, shape_refusal, depth_after, flow_refusal, taken_by, held_for, held_after, with_result, closing_refusal, Which, Standing, Stop, Next, Done, step_unless, many_refusal, end_refusal, act}
use Rattle.sequences.specs.Refusals.{none_after}

abbrev pub time_at : ℕ → Time → Time
time_at k σ = under (ratio_at k σ) σ

abbrev pub standing : Time → (blocks : ℕ) → List Held → List Result → Standing
standing τ blocks held rs = record { blocks = blocks; waiting = length held; runs = record { time = τ; held = held; results = rs } ∷ [] }

abbrev pub closing_under : Time → Block → List Held → ℕ
closing_under τ b held = first (shape_refusal τ b (length held)) (flow_refusal τ b (taken_by b held))

broken_under : (kind : Kind) (r : ℕ) (σ : Time) (b : Block) → broken_by kind (under r σ) b ≡ broken_by kind σ b
broken_under NoKind r σ b = refl
broken_under Basin r σ b = refl
broken_under Inflow r σ b = refl
broken_under Confluence r σ b = refl
broken_under Reach r σ b = refl
broken_under Pond r σ b = refl

pub shape_under : (r : ℕ) (σ : Time) (b : Block) (held : ℕ) → shape_refusal (under r σ) b held ≡ shape_refusal σ b held
unfolding shape_refusal patternless broken
shape_under r σ b held = rw (broken_under (kind_of b) r σ b)

module _ (r : ℕ) (σ : Time) (f : Form) (b : Block) (blocks : ℕ) (held : List Held) (rs : List Result) where
  abbrev τ : Time
  τ = under r σ

  pub one_refusal : closing_refusal σ b (standing τ blocks held rs) ≡ closing_under τ b held
  unfolding closing_refusal
  one_refusal = rw (none_after (flow_refusal τ b (taken_by b held)), shape_under r σ b (length held))

  abbrev more : List Result
  more = rs ++ (record { block = b; held = held_for τ b held } ∷ [])

  pub one_waiting : depth_after b (length held) ≡ length (held_after τ b held)
  one_waiting = omega (arith, length-drop (takes b) held)

  pub one_opens : (which : Which) (line : ℕ) (next : Reading) → act which (Open next) (InBlock σ f b) (standing τ blocks held rs) line
      ≡ step_unless (first (closing_under τ b held) (many_refusal blocks)) line (Next next (standing τ (blocks + 1) (held_after τ b held) more))
  unfolding with_result
  one_opens which line next = rw (one_refusal, one_waiting)

  pub one_ends : (which : Which) (line : ℕ) (ρ : Time) → act which (End ρ) (InBlock σ f b) (standing τ blocks held rs) line
      ≡ step_unless (first (closing_under τ b held) (end_refusal (length (held_after τ b held)))) line (Stop (Done ρ (more ∷ [])))
  unfolding with_result
  one_ends which line ρ = rw (one_refusal, one_waiting)
