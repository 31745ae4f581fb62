-- A deck that is worked to its end: what it answers fits the room that is lent for it and its records. Line by line, under all ratios at once.
--     Fitting       of a time control and results: the time control within its limits, some results and no more than there is room for, as many under each ratio, each with its record
--     done_fits     so is the end of every deck
use Rattle.std.specs.Prelude.{ℕ, zero, suc, ◌+◌, ◌-◌, ◌*◌, ◌≤◌, ◌<◌, max, ◌≡◌, refl, List, [], ◌∷◌, map, length, take, drop}
use Rattle.std.proofs.Common.{◌∙◌, arith, ltb-false, leb-false}
use Rattle.std.proofs.Math.ListN.{length-append, length-drop}
use Rattle.sequences.specs.Refusals.{neither_met, not_met}
use Rattle.sequences.specs.Sums.{length-list_from}
use Rattle.meaning.specs.Words.{◌≤?◌, ◌<?◌, met, first}
use Rattle.meaning.specs.Fields.{Fixed}
use Rattle.meaning.specs.Lines.{lines_of}
use Rattle.meaning.specs.Records.{most_ordinates}
use Rattle.meaning.specs.Water.{flow_limit, plus}
use Rattle.meaning.specs.Blocks.{Time, ratios_of, under, Block, Kind, NoKind, Basin, Inflow, Confluence, Reach, Pond, kind_of, takes, Held, total, made, made_by, reach_k, reach_steps, reach_x, pond_rows, overtops}
use Rattle.meaning.specs.Results.{Result, peak_of}
use Rattle.meaning.specs.Run.{Reading, BeforeTime, BeforeBlocks, InBlock, Event, taken_by, held_for, held_after, shape_refusal, flow_refusal, flow_refusals, closing_refusal, depth_after, Run, begun, held_in, with_result, Standing, nothing_yet, Every, many_refusal, end_refusal, results_of, block_count, Worked, Done, Step, step_unless, act, and_then, walk, worked_under, worked, most_blocks}
use Rattle.limits.specs.Within as limits
use Rattle.passes.specs.Does.{Does, refuses, waits, times, passes, begins, ends_empty, fills, turns, ends, does}
use Rattle.passes.specs.One.{shape_under}
use Rattle.passes.specs.Together.{some_ratio}
use Rattle.routing.specs.Lengths.{length_routed}
use Rattle.pond.specs.Limits.{ponded-length}
use Rattle.results.specs.Records.{Each, each_more}
use Rattle.closing.specs.Sizes.{area_after}
use Rattle.text.specs.Trim.{name-sound}
use Rattle.figures.specs.Listed.{Fits, fits}
use Rattle.printing.specs.Listed.{Lots}

pub record Fitting (τ : Time) (rss : List (List Result)) : Type 0 where
  pub time : limits.TimeWithin τ
  pub some : 0 < block_count rss
  pub few : block_count rss ≤ most_blocks
  pub ratios : length rss ≡ length (ratios_of τ)
  pub lots : Lots (block_count rss) rss

-- FLOWS ARE SHORT: at most 300 ordinates each
abbrev Short : List Held → Type 0
Short [] = Unit {0}
Short (h ∷ hs) = (length h.flow ≤ most_ordinates) × Short hs

short_drop : (n : ℕ) (hs : List Held) → Short hs → Short (drop n hs)
short_drop zero hs p = p
short_drop (suc n) [] p = p
short_drop (suc n) (h ∷ hs) p = short_drop n hs p.1

length-plus : (xs ys : List ℕ) → length (plus xs ys) ≡ max (length xs) (length ys)
length-plus [] ys = omega arith
length-plus (x ∷ xs) [] = omega arith
length-plus (x ∷ xs) (y ∷ ys) = omega (arith, length-plus xs ys)

short_total : (n : ℕ) (hs : List Held) → Short hs → length (total (take n hs)).flow ≤ most_ordinates
short_total zero hs p = omega arith
short_total (suc n) [] p = omega arith
short_total (suc n) (h ∷ hs) p = omega (arith, length-plus h.flow (total (take n hs)).flow, p.0, short_total n hs p.1)

short_made : (k : Kind) (τ : Time) (b : Block) (h : Held) → τ.ordinates ≤ most_ordinates → length h.flow ≤ most_ordinates → length (made_by k τ b h).flow ≤ most_ordinates
short_made NoKind τ b h few p = p
short_made Basin τ b h few p = let long : length (made_by Basin τ b h).flow ≡ τ.ordinates = length-list_from _ 0 τ.ordinates in omega arith
short_made Inflow τ b h few p = let long : length (made_by Inflow τ b h).flow ≡ τ.ordinates = length-list_from _ 0 τ.ordinates in omega arith
short_made Confluence τ b h few p = p
short_made Reach τ b h few p = omega (arith, length_routed (reach_steps b) τ.minutes (reach_k b) (reach_x b) h.flow)
short_made Pond τ b h few p = omega (arith, ponded-length τ.minutes (pond_rows b) h.flow)

short_for : (τ : Time) (b : Block) (held : List Held) → τ.ordinates ≤ most_ordinates → Short held → length (held_for τ b held).flow ≤ most_ordinates
unfolding made
short_for τ b held few p = short_made (kind_of b) τ b (total (take (takes b) held)) few (short_total (takes b) held p)

-- ONE RUN after so many blocks, under a ratio of the time control σ: an area at most for each block
record After (σ : Time) (waiting done : ℕ) (run : Run) : Type 0 where
  ratio : ℕ
  time : run.time ≡ under ratio σ
  depth : length run.held ≡ waiting
  counted : length run.results ≡ done
  areas : (total run.held).area ≤ 999_999 * done
  short : Short run.held
  fit : Each Fits run.results

begun-after : (σ : Time) (r : ℕ) → After σ 0 0 (begun σ r)
begun-after σ r = record { ratio = r; time = refl; depth = refl; counted = refl; areas = omega arith; short = tt; fit = tt }

peak-low : (τ : Time) (b : Block) (taken : Held) → flow_refusal τ b taken ≡ 0 → peak_of (made τ b taken).flow ≤ flow_limit
unfolding flow_refusal
peak-low τ b taken e =
    let peak = peak_of (made τ b taken).flow in
    ltb-false flow_limit peak (not_met (flow_limit <? peak) 12 (neither_met (met (overtops τ b taken) 20) _ e).1)

-- a block closed without a refusal: its result fits
module _ (σ : Time) (b : Block) (within : limits.TimeWithin σ) (block : limits.Within b) (waiting done : ℕ) (few : done < most_blocks) (sound : shape_refusal σ b waiting ≡ 0) where
  module _ (run : Run) (after : After σ waiting done run) (low : flow_refusal run.time b (taken_by b run.held) ≡ 0) where
    abbrev result : Result
    result = record { block = b; held = held_in b run }

    shape_sound : shape_refusal run.time b (length run.held) ≡ 0
    shape_sound = rw (after.time, after.depth) (shape_under after.ratio σ b waiting ∙ sound)

    areas_then : (total (held_after run.time b run.held)).area ≤ 999_999 * (done + 1)
    areas_then = omega (arith, area_after run.time b run.held block.cards shape_sound, after.areas)

    flow_short : length (held_in b run).flow ≤ most_ordinates
    flow_short = short_for run.time b run.held (rw after.time within.few_ordinates) after.short

    result_fits : Fits result
    result_fits =
        let name = name-sound b.name block.name in
        fits result name.0 name.1 (omega (arith, areas_then)) flow_short (peak-low run.time b (taken_by b run.held) low)

    closed_after : After σ (depth_after b waiting) (done + 1) (with_result b run)
    unfolding with_result
    closed_after =
        record {
          ratio = after.ratio;
          time = after.time;
          depth = omega (arith, length-drop (takes b) run.held, after.depth);
          counted = omega (arith, length-append run.results (result ∷ []), after.counted);
          areas = areas_then;
          short = (flow_short, short_drop (takes b) run.held after.short);
          fit = each_more Fits run.results result after.fit result_fits;
        }

-- EVERY RUN
abbrev All : (Run → Type 0) → List Run → Type 0
All P [] = Unit {0}
All P (run ∷ runs) = P run × All P runs

all_begun : (σ : Time) (rs : List ℕ) → All (After σ 0 0) (map (begun σ) rs)
all_begun σ [] = tt
all_begun σ (r ∷ rs) = (begun-after σ r, all_begun σ rs)

length_mapped : {A : Type 0} (f : A → Run) (xs : List A) → length (map f xs) ≡ length xs
length_mapped f [] = refl
length_mapped f (x ∷ xs) = omega (arith, length_mapped f xs)

all_closed : (σ : Time) (b : Block) → limits.TimeWithin σ → limits.Within b → (waiting done : ℕ) → done < most_blocks → shape_refusal σ b waiting ≡ 0
    → (runs : List Run) → All (After σ waiting done) runs → flow_refusals b runs ≡ 0 → All (After σ (depth_after b waiting) (done + 1)) (map (with_result b) runs)
all_closed σ b within block waiting done few sound [] all low = tt
all_closed σ b within block waiting done few sound (run ∷ runs) all low =
    let each = neither_met (flow_refusal run.time b (taken_by b run.held)) (flow_refusals b runs) low in
    (closed_after σ b within block waiting done few sound run all.0 each.0, all_closed σ b within block waiting done few sound runs all.1 each.1)

-- their results are lots of as many, and the first lot tells how many
lots_of : (σ : Time) (waiting done : ℕ) (runs : List Run) → All (After σ waiting done) runs → Lots done (results_of runs)
lots_of σ waiting done [] all = tt
lots_of σ waiting done (run ∷ runs) all = ((all.0.counted, all.0.fit), lots_of σ waiting done runs all.1)

first_lot : (rss : List (List Result)) (done : ℕ) → 0 < length rss → Lots done rss → block_count rss ≡ done
first_lot [] done some lots = absurd (omega arith)
first_lot (rs ∷ rss) done some lots = lots.0.0

length-results : (runs : List Run) → length (results_of runs) ≡ length runs
length-results [] = refl
length-results (run ∷ runs) = omega (arith, length-results runs)

-- WHERE THE READING STANDS: before the first block nothing is held; in a block there is one result less than blocks, under each ratio
record Inside (τ : Time) (s : Standing) : Type 0 where
  few : s.blocks ≤ most_blocks
  some : 0 < s.blocks
  ratios : length s.runs ≡ length (ratios_of τ)
  each : All (After τ s.waiting (s.blocks - 1)) s.runs

abbrev Empty : Standing → Type 0
Empty s = (s.blocks ≡ 0) × (s.waiting ≡ 0)

abbrev Stands : Reading → Standing → Type 0
Stands (BeforeTime form) s = Empty s
Stands (BeforeBlocks τ form) s = Empty s
Stands (InBlock τ form b) s = Inside τ s

first_block : (σ : Time) (s : Standing) → Empty s → Inside σ (record { blocks = s.blocks + 1; waiting = s.waiting; runs = map (begun σ) (ratios_of σ) })
first_block σ s none =
    let one : s.blocks + 1 - 1 ≡ 0 = omega (arith, none.0) in
    record {
      few = omega (arith, none.0);
      some = omega arith;
      ratios = length_mapped (begun σ) (ratios_of σ);
      each = rw (none.1, one) (all_begun σ (ratios_of σ));
    }

-- the block that was open is closed under every ratio
module _ (σ : Time) (b : Block) (s : Standing) (within : limits.TimeWithin σ) (block : limits.Within b) (in' : Inside σ s) (sound : closing_refusal σ b s ≡ 0) where
  no_refusal : (shape_refusal σ b s.waiting ≡ 0) × (flow_refusals b s.runs ≡ 0)
  unfolding closing_refusal
  no_refusal = neither_met (shape_refusal σ b s.waiting) (flow_refusals b s.runs) sound

  abbrev runs : List Run
  runs = map (with_result b) s.runs

  each_closed : All (After σ (depth_after b s.waiting) s.blocks) runs
  each_closed =
      let up : s.blocks - 1 + 1 ≡ s.blocks = omega (arith, in'.some) in
      rw up at (all_closed σ b within block s.waiting (s.blocks - 1) (omega (arith, in'.few, in'.some)) no_refusal.0 s.runs in'.each no_refusal.1)

  runs_long : length runs ≡ length (ratios_of σ)
  runs_long = length_mapped (with_result b) s.runs ∙ in'.ratios

  next-block : s.blocks < most_blocks → Inside σ (record { blocks = s.blocks + 1; waiting = depth_after b s.waiting; runs = runs })
  next-block room =
      let same : s.blocks + 1 - 1 ≡ s.blocks = omega arith in
      record { few = omega arith; some = omega arith; ratios = runs_long; each = rw same each_closed }

  last_block : Fitting σ (results_of runs)
  last_block =
      let long = length-results runs ∙ runs_long in
      let lots = lots_of σ (depth_after b s.waiting) s.blocks runs each_closed in
      let count = first_lot (results_of runs) s.blocks (omega (arith, long, some_ratio σ)) lots in
      record { time = within; some = omega (arith, count, in'.some); few = omega (arith, count, in'.few); ratios = long; lots = rw count lots }

-- LINE BY LINE
step_done : (n line : ℕ) (next : Step) (go : Reading → Standing → Worked) {τ : Time} {rss : List (List Result)} → and_then (step_unless n line next) go ≡ Done τ rss
    → (n ≡ 0) × (and_then next go ≡ Done τ rss)
step_done zero line next go e = (refl, e)
step_done (suc n) line next go e = absurd (let z : ◌≡◌ {A = ℕ} 0 1 = cc in omega arith)

module _ {τ : Time} {rss : List (List Result)} (s : Standing) (line : ℕ) (go : Reading → Standing → Worked)
    (ih : (next : Reading) (then : Standing) → limits.ReadingWithin next → Stands next then → go next then ≡ Done τ rss → Fitting τ rss) where
  act_done : {r : Reading} {e : Event} → Does r e → limits.ReadingWithin r → limits.EventWithin e → Stands r s → and_then (act Every e r s line) go ≡ Done τ rss → Fitting τ rss
  act_done refuses here there st e = absurd (let z : ◌≡◌ {A = ℕ} 0 1 = cc in omega arith)
  act_done waits here there st e = ih _ s there st e
  act_done times here there st e = ih _ s there st e
  act_done passes here there st e = ih _ s there st e
  act_done (begins {τ = σ}) here there st e =
      let d = step_done (many_refusal s.blocks) line _ go e in
      ih _ _ there (first_block σ s st) d.1
  act_done ends_empty here there st e =
      let d = step_done (end_refusal s.waiting) line _ go e in
      let refused : end_refusal 0 ≡ 0 = rw st.1 at d.0 in
      absurd (omega arith)
  act_done fills here there st e = ih _ s there st e
  act_done (turns {τ = σ} {b = b}) here there st e =
      let d = step_done (first (closing_refusal σ b s) (many_refusal s.blocks)) line _ go e in
      let none = neither_met (closing_refusal σ b s) (many_refusal s.blocks) d.0 in
      let room = leb-false most_blocks s.blocks (not_met (most_blocks ≤? s.blocks) 13 none.1) in
      ih _ _ there (next-block σ b s here.0 here.1 st none.0 room) d.1
  act_done (ends {τ = σ} {b = b}) here there st e =
      let last = end_refusal (depth_after b s.waiting) in
      let d = step_done (first (closing_refusal σ b s) last) line _ go e in
      let whole = last_block σ b s here.0 here.1 st (neither_met (closing_refusal σ b s) last d.0).0 in
      let time : σ ≡ τ = cc in
      let results : results_of (map (with_result b) s.runs) ≡ rss = cc in
      rw (time, results) at whole

walk_done : (ls : List (List ℕ)) (r : Reading) (s : Standing) (line : ℕ) {τ : Time} {rss : List (List Result)} → limits.ReadingWithin r → Stands r s
    → walk Every ls r s line ≡ Done τ rss → Fitting τ rss
unfolding walk
walk_done [] r s line within st e = absurd (let z : ◌≡◌ {A = ℕ} 0 1 = cc in omega arith)
walk_done (l ∷ ls) r s line within st e =
    act_done s line (λ (next : Reading) (then : Standing). walk Every ls next then (line + 1))
    (λ (next : Reading) (then : Standing) there stands. walk_done ls next then (line + 1) there stands)
    (does r l) within (limits.reading_within r l within) st e

pub done_fits : (deck : List ℕ) {τ : Time} {rss : List (List Result)} → worked deck ≡ Done τ rss → Fitting τ rss
unfolding worked_under
done_fits deck e = walk_done (lines_of deck) (BeforeTime Fixed) nothing_yet 1 tt (refl, refl) e
