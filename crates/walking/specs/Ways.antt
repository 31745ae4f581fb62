-- The ways of a turn of the run: refused where a block closes, a 201st block, the next block, not one held at the end, the deck worked.
use Rattle.std.specs.Prelude.{ℕ, ◌+◌, ◌-◌, ◌*◌, ◌≤◌, ◌<◌, ◌≡◌, refl, Bool, true, false, List, [], ◌∷◌, ◌++◌, ◌⊎◌, length, drop, replicate}
use Rattle.std.proofs.Common.{sym, ap, ◌∙◌, subst, arith, eqb-true}
use Rattle.std.proofs.lemmas.Bool.{eqb-false}
use Rattle.sequences.specs.Choices.{taken, passed}
use Rattle.sequences.specs.Parts.{part}
use Rattle.meaning.specs.Words.{◌=?◌}
use Rattle.meaning.specs.Lines.{lines_of}
use Rattle.meaning.specs.Blocks.{Time, or_whole, ratio_at}
use Rattle.meaning.specs.Results.{record_size}
use Rattle.meaning.specs.Run as run
use Rattle.meaning.specs.Run.{InBlock, Open, End, Run, Standing, open_refusal, closed, Only, one_more, Stopped, Done, walk, worked_under, named_flow, most_blocks}
use Rattle.meaning.specs.Records.{most_ordinates}
use Rattle.events.specs.NextEvent.{Met, next_event}
use Rattle.events.specs.TimeControl.{Timed, FoundTimed, found-timed}
use Rattle.fields.specs.Spans.{form_of}
use Rattle.placing.specs.declared.Phase.TheVariants as phase
use Rattle.placing.specs.declared.Reading.{Reading}
use Rattle.blocks.specs.declared.Name.{Name}
use Rattle.blocks.specs.declared.Time as times
use Rattle.blocks.specs.Meant.{ratios_is, time_is, name_is}
use Rattle.placing.specs.Readings.{reading_is, time_in, form_in, Ready, opened_in, block_is}
use Rattle.stack.specs.View.{view, length_held}
use Rattle.results.specs.Records.{records_in}
use Rattle.closing.specs.BetweenBlocks.{Carried, carried-named}
use Rattle.turns.specs.declared.State.{State}
use Rattle.refusals.specs.Numbers.{refusal_in}
use Rattle.turns.specs.Turns.{Finished, stack_in, Opened, copied_last}
use Rattle.walking.specs.Events.{open_refused, open_too_many, open_goes, end_refused, end_not_one, end_done}
use Rattle.passes.specs.Apart.{ratio_count}
use Rattle.passes.specs.One.{time_at}
use Rattle.walking.specs.OneRun.{standing, closed_run, one_left, one_done, one_opened}
use Rattle.walking.specs.Going.{listed_in, run_of, Going, DoneIs, reading_under, ClosedBy}
use Rattle.walking.specs.ReadingOn.{Moved, limits, moved}
use Rattle.walking.specs.OpenClosed.{ClosedWell, closed_number, closed_well}
use Rattle.walking.specs.Phases.{timed_by, results_by, few_by, one_up, last_by, run_by, begins_by, in_block_by, after-time, ratios_by, counted_in}

module _ (deck : List ℕ) (named place n m : ℕ) (s : State) (work ordinates records cards : List ℕ) (g : Going deck named place n m s work ordinates records cards)
    (r : Reading) (line : ℕ) (rest : List (List ℕ)) (cards' : List ℕ) (ready : Ready r cards')
    (x : Finished) (work' ordinates' records' : List ℕ)
    (c : ClosedBy r.phase (reading_under place r) s.held s.blocks named place x work work' ordinates ordinates' records records' cards') where
  abbrev lines : List (List ℕ)
  lines = lines_of (drop s.at deck)

  abbrev from : run.Reading
  from = reading_is s.reading cards

  abbrev q : run.Reading
  q = reading_is r cards'

  abbrev was : Run
  was = run_of place r s.held g.results work

  abbrev stand : Standing
  stand = standing r.phase s.blocks was

  abbrev next-run : Run
  next-run = closed_run q was

  -- the walk so far, with what is held seen by the reading that is reached
  module _ (e : run.Event) (found : next_event lines from (s.line + 1) ≡ Met e q line rest) where
    abbrev move : Moved named place n m s r g.results work ordinates records
    move = moved deck named place n m s work ordinates records cards g e r line rest cards' found ready

    walked : walk (Only place) lines from stand (s.line + 1) ≡ worked_under (Only place) deck
    walked = rw move.same g.walked

    number : open_refusal q stand ≡ refusal_in x
    number = sym (closed_number named place n m r s.held s.blocks x work work' ordinates ordinates' records records' cards' g.results c)

    module _ (lw : length work' ≡ length work) (lo : length ordinates' ≡ length ordinates) (lr : length records' ≡ length records) (none : refusal_in x ≡ 0) where
      pub well : ClosedWell named place n m q was r.time.ordinates x work' ordinates' records'
      well =
          closed_well named place n m r s.held s.blocks x work work' ordinates ordinates' records records' cards' g.results move.held move.carried lw lo lr none
          (limits deck named place n m s work ordinates records cards g e r line rest cards' found ready).1 move.count c

      pub as_many : length next-run.results ≡ s.blocks
      as_many = results_by r.phase (time_is r.time) (form_of r.free) (block_is r cards') was s.blocks s.held.depth move.count

      pub depth_is : (stack_in x).depth ≡ (closed q stand).waiting
      depth_is =
          sym (length_held r.time.ordinates (stack_in x).areas (stack_in x).depth work') ∙ ap length well.held-is
          ∙ sym (one_left (time_is r.time) (form_of r.free) (block_is r cards') s.blocks was r.phase)

  -- KK
  module _ (name : Name) (found : next_event lines from (s.line + 1) ≡ Met (Open (opened_in q (name_is name))) q line rest) where
    abbrev next : run.Reading
    next = opened_in q (name_is name)

    -- a KK is refused in a block only, and the state there has the deck's ratios
    pub kk_counted : (refusal_in x ≡ 0 → ⊥) ⊎ (most_blocks ≤ s.blocks) → length (or_whole (listed_in s)) ≡ ratio_count deck
    kk_counted stopped =
        counted_in s.reading.phase r.phase (reading_under place r) s.held s.blocks named place x work work' ordinates ordinates' records records' cards'
        (length g.results) s.held.depth lines from (listed_in s) (ratio_count deck) g.ratios g.count (move (Open next) found).count c stopped

    pub kk_refused : (refusal_in x ≡ 0 → ⊥) → worked_under (Only place) deck ≡ Stopped (refusal_in x) line
    kk_refused some = sym (walked (Open next) found) ∙ open_refused (Only place) lines from stand (s.line + 1) next q line rest found (refusal_in x) (number (Open next) found) some

    pub kk_too_many : refusal_in x ≡ 0 → most_blocks ≤ s.blocks → worked_under (Only place) deck ≡ Stopped 14 line
    kk_too_many z h = sym (walked (Open next) found) ∙ open_too_many (Only place) lines from stand (s.line + 1) next q line rest found (number (Open next) found ∙ z) h

    module _ (at : ℕ) (here : rest ≡ lines_of (drop at deck)) (up : at ≤ length deck) (counted : line ≤ at) (few : s.blocks < most_blocks)
        (lw : length work' ≡ length work) (lo : length ordinates' ≡ length ordinates) (lr : length records' ≡ length records) (none : refusal_in x ≡ 0)
        (t : State) (cards'' : List ℕ) (goes : Opened r (stack_in x) name at line s.blocks t cards'') where
      after_it : Timed q
      after_it = (subst FoundTimed found (found-timed lines from (s.line + 1))).0

      timed : (time_in q ≡ time_is r.time) × (form_in q ≡ form_of r.free)
      timed = timed_by r.phase (time_is r.time) (form_of r.free) (block_is r cards') after_it

      abbrev reading : Reading
      reading = t.reading

      same_next : reading_is reading cards'' ≡ next
      same_next = goes.reading.is ∙ rw (timed.0, timed.1)

      nq : reading.time.ordinates ≡ r.time.ordinates
      nq = ap (λ (u : times.Time). u.ordinates) goes.reading.time

      run_is : next-run ≡ run_of place r (stack_in x) next-run.results work'
      run_is = run_by r.phase (time_is r.time) (form_of r.free) (block_is r cards') was (view (stack_in x) r.time.ordinates work') (well (Open next) found lw lo lr none).held-is

      more : one_more (Only place) q (closed q stand) ≡ standing phase.InBlock (s.blocks + 1) (run_of place r (stack_in x) next-run.results work')
      more =
          one_opened (time_is r.time) (form_of r.free) (block_is r cards') s.blocks was place r.phase
          (after-time r.phase (time_is r.time) (form_of r.free) (block_is r cards') after_it)
          (begins_by r.phase place r s.held g.results s.blocks work (move (Open next) found).count)
          ∙ ap (standing phase.InBlock (s.blocks + 1)) run_is

      ratios-next : length (or_whole (ratios_is r.time.ratios)) ≡ ratio_count deck
      ratios-next =
          ratios_by s.reading.phase r.phase (time_is r.time) (form_of r.free) (block_is r cards') lines from (s.line + 1) next line rest (listed_in s) (ratio_count deck)
          s.blocks (length g.results) s.held.depth found after_it g.ratios g.count (move (Open next) found).count (move (Open next) found).listed

      pub kk_goes : Going deck named place n m t work' ordinates' records' cards''
      kk_goes =
          let w = well (Open next) found lw lo lr none in
          let many = as_many (Open next) found lw lo lr none in
          record {
            results = next-run.results;
            few-ratios = g.few-ratios;
            up = rw goes.place up;
            counted = rw (goes.place, goes.lines) counted;
            ready = goes.reading.ready;
            within = rw same_next (limits deck named place n m s work ordinates records cards g (Open next) r line rest cards' found ready).0;
            held = rw (goes.holds, nq) w.held;
            count = rw (goes.reading.phase, goes.count, many) (refl, omega arith);
            carried =
                subst (λ (u : times.Time). Carried named place (time_at place (time_is u)) n m next-run.results ordinates' records') (sym goes.reading.time) w.carried;
            ratios = rw (goes.reading.phase, goes.reading.time) ratios-next;
            walked =
                rw (goes.place, goes.lines, same_next, goes.reading.phase, goes.holds, goes.count, goes.reading.time, ← here, ← more)
                (sym (open_goes (Only place) lines from stand (s.line + 1) next q line rest found (number (Open next) found ∙ none) few) ∙ walked (Open next) found);
          }

  -- ZZ
  module _ (found : next_event lines from (s.line + 1) ≡ Met (End (time_in q)) q line rest) where
    pub zz_refused : (refusal_in x ≡ 0 → ⊥) → worked_under (Only place) deck ≡ Stopped (refusal_in x) line
    zz_refused some = sym (walked (End (time_in q)) found) ∙ end_refused (Only place) lines from stand (s.line + 1) (time_in q) q line rest found (refusal_in x) (number (End (time_in q)) found) some

    module _ (lw : length work' ≡ length work) (lo : length ordinates' ≡ length ordinates) (lr : length records' ≡ length records) (none : refusal_in x ≡ 0) where
      depth : (stack_in x).depth ≡ (closed q stand).waiting
      depth = depth_is (End (time_in q)) found lw lo lr none

      pub zz_not_one : ((stack_in x).depth ≡ 1 → ⊥) → worked_under (Only place) deck ≡ Stopped 15 line
      zz_not_one other =
          sym (walked (End (time_in q)) found)
          ∙ end_not_one (Only place) lines from stand (s.line + 1) (time_in q) q line rest found (number (End (time_in q)) found ∙ none) (λ e. other (depth ∙ e))

      module _ (one : (stack_in x).depth ≡ 1) (ordinates'' : List ℕ)
          (copied : ordinates'' ≡ copied_last named r.time.ordinates (part (most_ordinates * ((stack_in x).depth - 1)) r.time.ordinates work') ordinates') where
        in_block : r.phase ≡ phase.InBlock
        in_block =
            in_block_by r.phase (time_is r.time) (form_of r.free) (block_is r cards') was s.blocks s.held.depth r.time.ordinates (stack_in x) work'
            (move (End (time_in q)) found).count (length_held r.time.ordinates s.held.areas s.held.depth work) (well (End (time_in q)) found lw lo lr none).held-is (omega arith)

        done : worked_under (Only place) deck ≡ Done (time_in q) (next-run.results ∷ [])
        done =
            sym (walked (End (time_in q)) found)
            ∙ end_done (Only place) lines from stand (s.line + 1) (time_in q) q line rest found (number (End (time_in q)) found ∙ none) (sym depth ∙ one)
            ∙ ap (Done (time_in q)) (one_done (time_is r.time) (form_of r.free) (block_is r cards') s.blocks was r.phase in_block)

        abbrev w : ClosedWell named place n m q was r.time.ordinates x work' ordinates' records'
        w = well (End (time_in q)) found lw lo lr none

        flow_by : (t : Bool) → (named =? 0) ≡ t → named ≤ length next-run.results → r.time.ordinates ≤ n
            → copied_last named r.time.ordinates (part (most_ordinates * ((stack_in x).depth - 1)) r.time.ordinates work') ordinates'
            ≡ named_flow named next-run.results ++ replicate (n - r.time.ordinates) 0
        flow_by true e few room =
            let last : named ≡ 0 = eqb-true named 0 e in
            sym (taken _ e refl)
            ∙ rw last (last_by r.phase (time_is r.time) (form_of r.free) (block_is r cards') was s.blocks s.held.depth place n m (stack_in x) work' ordinates' records'
            (move (End (time_in q)) found).count (length_held r.time.ordinates s.held.areas s.held.depth work) w.held-is (omega arith) room
            (subst (λ (k : ℕ). Carried k place was.time n m next-run.results ordinates' records') last w.carried))
        flow_by false e few room =
            let some : named ≡ 0 → ⊥ = eqb-false named 0 e in
            sym (passed _ e refl) ∙ carried-named w.carried (one_up named some) few room

        pub zz_done : DoneIs deck named place n m (listed_in s) r.time.ordinates s.blocks ordinates'' records'
        zz_done =
            let under = (subst FoundTimed found (found-timed lines from (s.line + 1))).0 in
            record {
              time = time_in q;
              results = next-run.results;
              done = done;
              listed-are =
                  ap (λ (τ : Time). τ.listed) (timed_by r.phase (time_is r.time) (form_of r.free) (block_is r cards') under).0
                  ∙ (move (End (time_in q)) found).listed ((move (End (time_in q)) found).stays in_block);
              ordinates-are = ap (λ (τ : Time). τ.ordinates) (timed_by r.phase (time_is r.time) (form_of r.free) (block_is r cards') under).0;
              blocks-are = as_many (End (time_in q)) found lw lo lr none;
              few = few_by r.phase s.blocks (length g.results) s.held.depth (move (End (time_in q)) found).count;
              names = w.carried.names;
              told =
                  subst (λ (τ : Time). record_size * length next-run.results ≤ m → records' ≡ records_in (ratio_at place τ) (place + 1) m next-run.results)
                  (sym (timed_by r.phase (time_is r.time) (form_of r.free) (block_is r cards') under).0) w.carried.told;
              flow = λ few room. copied ∙ flow_by (named =? 0) refl few room;
            }
