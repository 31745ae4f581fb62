-- The sums of a sheet are what the run leaves: the ordinates of the named block under the named ratio, of every accepted run that names a runoff block.
--     shown_block, shown_time    the block that such a run names, and the time control with the ratio that it names in force
--     run_shows                its ordinates are the column sums of the block's sheet, and zeros behind them
use Rattle.std.specs.Prelude.{ℕ, zero, suc, ◌-◌, ◌<◌, ◌≡◌, refl, length, replicate}
use Rattle.std.proofs.Common.{sym, ap, ◌∙◌, arith}
use Rattle.std.proofs.Math.Path.{subst}
use mathlib.Core.List.{List, [], ◌∷◌, ◌++◌, map}
use Rattle.std.proofs.Math.ListN.{get_or}
use Rattle.meaning.specs.Water.{runoff_of}
use Rattle.meaning.specs.Blocks.{Time, ratios_of, ratio_at, under, Block, Basin, kind_of, opened, unit_ordinates, excess, Held, made}
use Rattle.meaning.specs.Results.{Result, blocks_of}
use Rattle.meaning.specs.Run.{held_after, Lent, Outcome, place_of, named_ratio, flows_of, named_flow, outcome}
use Rattle.meaning.specs.Sheet.{sheet_of, column_sums, named_block}
use Rattle.passes.specs.Together.{some_ratio, ratio-at}
use Rattle.network.specs.Steps.{closed_from}
use Rattle.network.specs.Order.{Enough}
use Rattle.network.specs.Answers.{enough_room, Passed, passed_accepted}
use Rattle.network.specs.WorkedBlocks.{closed_under, DoneAs, as_many_under, count_blocks}
use Rattle.network.proofs.WorkedBlocks.{done_as_said}
use Rattle.listing.specs.Fitting.{done_fits}
use Rattle.listing.specs.Naming.{number_within}
use Rattle.columns.specs.Columns.{block_sums}

-- a runoff block holds its runoff, whatever is held before it
basin_flow : (τ : Time) (held : List Held) (bs : List Block) (i : ℕ) → i < length bs → kind_of (get_or (blocks_of (closed_from τ held bs)) i (opened [])) ≡ Basin
    → let b = get_or (blocks_of (closed_from τ held bs)) i (opened []) in get_or (flows_of (closed_from τ held bs)) i [] ≡ runoff_of (unit_ordinates b) (excess τ b) τ.ordinates
unfolding made
basin_flow τ held [] i h e = absurd (omega arith)
basin_flow τ held (b ∷ bs) zero h e = rw e
basin_flow τ held (b ∷ bs) (suc i) h e = basin_flow τ (held_after τ b held) bs i (omega arith) e

-- the results under the ratio at a place
each_run : (σ : Time) (bs : List Block) (rs : List ℕ) (place : ℕ) → place < length (map (closed_under σ bs) rs) → get_or (map (closed_under σ bs) rs) place [] ≡ closed_under σ bs (get_or rs place 100)
each_run σ bs [] place h = absurd (omega arith)
each_run σ bs (r ∷ rs) zero h = refl
each_run σ bs (r ∷ rs) (suc place) h = each_run σ bs rs place (omega arith)

run_under : {deck : List ℕ} {τ : Time} {rss : List (List Result)} (d : DoneAs deck τ rss) (place : ℕ) → place < length rss
    → get_or rss place [] ≡ closed_from (under (ratio_at place τ) τ) [] d.blocks
run_under {deck} {τ} {rss} d place h =
    ap (λ (qss : List (List Result)). get_or qss place []) d.results
    ∙ each_run τ d.blocks (ratios_of τ) place (subst (λ (qss : List (List Result)). place < length qss) d.results h)
    ∙ ap (closed_under τ d.blocks) (sym (ratio-at place τ))

module _ (deck : List ℕ) (named ratio : ℕ) (lent : Lent) {nq blocks ratios : ℕ} (p : Passed deck named ratio lent nq blocks ratios) where
  abbrev time : Time
  time = p.settles.time

  abbrev results : List (List Result)
  results = p.settles.results

  abbrev place : ℕ
  place = place_of ratio (length results)

  abbrev pub shown_time : Time
  shown_time = under (ratio_at place time) time

  abbrev pub shown_block : Block
  shown_block = named_block named (named_ratio ratio results)

  abbrev worked-as : DoneAs deck time results
  worked-as = done_as_said deck time results p.settles.done

  -- what is named is there
  enough : Enough time worked-as.blocks named ratio lent
  enough =
      enough_room time worked-as.blocks named ratio lent p.work (rw (count_blocks worked-as, (done_fits deck p.settles.done).ratios) at p.settles.room)

  many : length results ≡ length (ratios_of time)
  many = (done_fits deck p.settles.done).ratios

  listed : place < length results
  listed =
      let number = number_within ratio (length results) (omega (arith, enough.ratio-listed, many)) (omega (arith, many, some_ratio time)) in
      omega (arith, number.0, number.1)

  abbrev run : List Result
  run = get_or results place []

  there : place_of named (length run) < length worked-as.blocks
  there =
      let long : length run ≡ length worked-as.blocks = as_many_under worked-as place listed ∙ count_blocks worked-as in
      let some : 0 < length run = omega (arith, as_many_under worked-as place listed, (done_fits deck p.settles.done).some) in
      let number = number_within named (length run) (omega (arith, enough.block, long)) some in
      omega (arith, number.0, number.1, long)

  flow_shown : kind_of shown_block ≡ Basin → named_flow named (named_ratio ratio results) ≡ column_sums (sheet_of shown_time shown_block)
  unfolding named_flow named_ratio
  flow_shown runoff =
      let i = place_of named (length run) in
      subst
      (λ (rs : List Result).
      kind_of (get_or (blocks_of rs) i (opened [])) ≡ Basin
      → get_or (flows_of rs) i [] ≡ runoff_of (unit_ordinates (get_or (blocks_of rs) i (opened []))) (excess shown_time (get_or (blocks_of rs) i (opened []))) time.ordinates)
      (sym (run_under worked-as place listed)) (basin_flow shown_time [] worked-as.blocks i there) runoff
      ∙ block_sums shown_time shown_block

  pub run_shows : kind_of shown_block ≡ Basin
      → (outcome deck named ratio lent).ordinates ≡ column_sums (sheet_of shown_time shown_block) ++ replicate (lent.ordinates - time.ordinates) 0
  run_shows runoff =
      ap (λ (o : Outcome). o.ordinates) (passed_accepted deck named ratio lent p)
      ∙ ap (λ (q : List ℕ). q ++ replicate (lent.ordinates - time.ordinates) 0) (flow_shown runoff)
