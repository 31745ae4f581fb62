-- The walk under one ratio: one run, and before the first block none.
--     standing                       where such a walk stands, by the phase of the reading
--     closed_run                      the run where the block that was open is closed
--     one_opened, one_left, one_done     and what a KK and a ZZ make of the standing then
use Rattle.std.specs.Prelude.{ℕ, ◌+◌, ◌≡◌, List, [], ◌∷◌, length}
use Rattle.std.proofs.Math.Path.{refl}
use Rattle.meaning.specs.Fields.{Form}
use Rattle.meaning.specs.Blocks.{Time, Block, Held}
use Rattle.meaning.specs.Results.{Result}
use Rattle.meaning.specs.Run as run
use Rattle.meaning.specs.Run.{InBlock, BeforeTime, BeforeBlocks, Run, with_result, Standing, closed, Only, one_more, results_of}
use Rattle.placing.specs.declared.Phase.{Phase}
use Rattle.placing.specs.declared.Phase.TheVariants as phase
use Rattle.placing.specs.Readings.{reading_by}
use Rattle.passes.specs.One.{time_at, one_waiting}

abbrev pub alone : Time → List Held → List Result → Run
alone τ held rs = record { time = τ; held = held; results = rs }

abbrev pub runs_by : Phase → Run → List Run
runs_by phase.BeforeTime run = []
runs_by phase.BeforeBlocks run = []
runs_by phase.InBlock run = run ∷ []

abbrev pub standing : Phase → ℕ → Run → Standing
standing p blocks run = record { blocks = blocks; waiting = length run.held; runs = runs_by p run }

abbrev pub closed_run : run.Reading → Run → Run
closed_run (BeforeTime form) run = run
closed_run (BeforeBlocks τ form) run = run
closed_run (InBlock τ form b) run = with_result b run

module _ (τ : Time) (form : Form) (b : Block) (blocks : ℕ) (run : Run) where
  -- how many are held then
  pub one_left : (p : Phase) → (closed (reading_by p τ form b) (standing p blocks run)).waiting ≡ length (closed_run (reading_by p τ form b) run).held
  unfolding with_result
  one_left phase.BeforeTime = refl
  one_left phase.BeforeBlocks = refl
  one_left phase.InBlock = one_waiting run.time.ratio run.time form b blocks run.held run.results

  -- the results of a deck that ends in a block
  pub one_done : (p : Phase) → p ≡ phase.InBlock → results_of (closed (reading_by p τ form b) (standing p blocks run)).runs ≡ (closed_run (reading_by p τ form b) run).results ∷ []
  one_done p e = rw e

  -- a run begins at the first KK, with nothing held
  pub one_opened : (k : ℕ) (p : Phase) → (p ≡ phase.BeforeTime → ⊥) → (p ≡ phase.BeforeBlocks → run ≡ alone (time_at k τ) [] [])
      → one_more (Only k) (reading_by p τ form b) (closed (reading_by p τ form b) (standing p blocks run)) ≡ standing phase.InBlock (blocks + 1) (closed_run (reading_by p τ form b) run)
  unfolding with_result
  one_opened k phase.BeforeTime after begins = absurd (after refl)
  one_opened k phase.BeforeBlocks after begins = rw (begins refl)
  one_opened k phase.InBlock after begins = rw (one_waiting run.time.ratio run.time form b blocks run.held run.results)
