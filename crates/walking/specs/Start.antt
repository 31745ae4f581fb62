-- Where the run starts: fixed form, nothing held, no results, and zeros lent for them.
use Rattle.std.specs.Prelude.{ℕ, ◌≤◌, ◌≡◌, List, [], length, replicate}
use Rattle.std.proofs.Common.{zero-le, ◌∙◌}
use Rattle.std.proofs.Math.Path.{refl}
use Rattle.meaning.specs.Run.{worked_under, work_size}
use Rattle.passes.specs.Apart.{ratio_count}
use Rattle.passes.specs.One.{time_at}
use Rattle.blocks.specs.Meant.{time_is}
use Rattle.closing.specs.BetweenBlocks.{carried_none, held_none}
use Rattle.turns.specs.declared.State.{State}
use Rattle.walking.specs.Going.{Going}
use Rattle.turns.specs.Turns.{StateBegins}

module _ (deck : List ℕ) (named place : ℕ) (s : State) (work ordinates records cards : List ℕ) where
  pub starts : StateBegins s cards → place ≤ 9 → work_size ≤ length work → ordinates ≡ replicate (length ordinates) 0 → records ≡ replicate (length records) 0
      → Going deck named place (length ordinates) (length records) s work ordinates records cards
  unfolding worked_under ratio_count
  starts b few enough no_flow untold =
      let c = carried_none named place (time_at place (time_is s.reading.time)) (length ordinates) (length records) in
      record {
        results = [];
        few-ratios = few;
        up = rw b.at zero-le;
        counted = rw b.line zero-le;
        ready = b.reading.ready;
        within = rw b.reading.is tt;
        held = rw b.held (held_none s.reading.time.ordinates work b.reading.ready.few_ordinates enough);
        count = rw (b.reading.phase, b.blocks, b.held) (refl, refl, refl);
        ratios = rw (b.reading.is, b.reading.phase, b.at) (refl, b.reading.none-listed);
        carried = record { names = tt; n-long = refl; m-long = refl; flow = no_flow ∙ c.flow; told = λ h. untold ∙ c.told h };
        walked = rw (b.reading.is, b.reading.phase, b.at, b.line, b.blocks, b.held) refl;
      }
