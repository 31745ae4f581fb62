-- The block that was open, closed: the refusal that the definitions ask for, and what the run then has.
--     closed_number    the refusal
--     ClosedWell       where there is none: what is held and the results are those of the definitions, and what was lent holds them
use Rattle.std.specs.Prelude as std
use Rattle.std.specs.Prelude.{ℕ, ◌+◌, ◌-◌, ◌*◌, ◌≡◌, Ok, Err, IfOk, List, [], ◌∷◌, ◌++◌, get_or}
use Rattle.std.proofs.Math.Path.{refl, sym}
use Rattle.std.proofs.Common.{ap, ◌∙◌}
use native.Mathlib.Omega.{arith}
use Rattle.std.proofs.Math.ListN.{length, length-append}
use Rattle.sequences.specs.Parts.{part}
use Rattle.meaning.specs.Records.{most_ordinates}
use Rattle.meaning.specs.Results.{Result}
use Rattle.meaning.specs.Run as run
use Rattle.meaning.specs.Run.{Run, with_result, open_refusal}
use Rattle.limits.specs.Within.{ReadingWithin}
use Rattle.fields.specs.Spans.{form_of}
use Rattle.placing.specs.declared.Phase.{Phase}
use Rattle.placing.specs.declared.Phase.TheVariants as phase
use Rattle.placing.specs.declared.Reading.{Reading}
use Rattle.blocks.specs.Meant.{ratios_is, time_is}
use Rattle.placing.specs.Readings.{reading_is, reading_by, block_is}
use Rattle.placing.specs.Labels.{name_short}
use Rattle.stack.specs.declared.Stack.{Stack}
use Rattle.stack.specs.View.{view}
use Rattle.telling.specs.declared.Closed.{Closed}
use Rattle.writing.specs.WrittenResult.{record_told, record_put, copied_named}
use Rattle.closing.specs.declared.Unclosed.{Unclosed}
use Rattle.closing.specs.ClosedBlock.{number_in, Closes}
use Rattle.closing.specs.ToldResult.{result_of, told_number}
use Rattle.closing.specs.BetweenBlocks.{Carried, carried_more, HeldAfter, held_more}
use Rattle.passes.specs.One.{one_refusal}
use Rattle.refusals.specs.Numbers.{refusal_in}
use Rattle.turns.specs.Turns.{Finished, stack_in, some_refused}
use Rattle.walking.specs.OneRun.{standing, closed_run}
use Rattle.walking.specs.Going.{CountBy, run_of, reading_under, held_of, Finishes, ClosedBy}

pub record ClosedWell (named place n m : ℕ) (q : run.Reading) (was : Run) (nq : ℕ) (x : Finished) (work ordinates records : List ℕ) : Type 0 where
  pub held-is : view (stack_in x) nq work ≡ (closed_run q was).held
  pub held : HeldAfter (length (closed_run q was).results) (stack_in x) nq work
  pub carried : Carried named place was.time n m (closed_run q was).results ordinates records

number_held : (c : std.Result Closed Unclosed) → refusal_in (held_of c) ≡ number_in c
number_held (Ok c) = refl
number_held (Err u) = refl

module _ (named place n m : ℕ) (r : Reading) (h : Stack) (blocks : ℕ) (x : Finished) (work work' ordinates ordinates' records records' cards : List ℕ) (rs : List Result) where
  abbrev reading : Phase → run.Reading
  reading p = reading_by p (time_is r.time) (form_of r.free) (block_is r cards)

  -- under the ratio, and the run that the block is closed in
  abbrev here : Reading
  here = reading_under place r

  abbrev was : Run
  was = run_of place r h rs work

  number_by : (p : Phase) → ClosedBy p here h blocks named place x work work' ordinates ordinates' records records' cards → refusal_in x ≡ open_refusal (reading p) (standing p blocks was)
  number_by phase.BeforeTime c = ap refusal_in c.0
  number_by phase.BeforeBlocks c = ap refusal_in c.0
  number_by phase.InBlock c =
      ap refusal_in c.held ∙ number_held c.closed ∙ told_number c.closes
      ∙ sym (one_refusal (get_or (ratios_is r.time.ratios) place 100) (time_is r.time) (form_of r.free) (block_is r cards) blocks (view h r.time.ordinates work) rs)

  pub closed_number : ClosedBy r.phase here h blocks named place x work work' ordinates ordinates' records records' cards
      → refusal_in x ≡ open_refusal (reading_is r cards) (standing r.phase blocks was)
  closed_number c = number_by r.phase c

  module _ (held : HeldAfter (length rs) h r.time.ordinates work) (carried : Carried named place was.time n m rs ordinates records) (lw : length work' ≡ length work)
      (lo : length ordinates' ≡ length ordinates) (lr : length records' ≡ length records) (none : refusal_in x ≡ 0) where
    idle : (q : run.Reading) → closed_run q was ≡ was → (x ≡ Ok h) × (work' ≡ work) × (ordinates' ≡ ordinates) × (records' ≡ records)
        → ClosedWell named place n m q was r.time.ordinates x work' ordinates' records'
    idle q e c = record { held-is = rw (e, c.0, c.1); held = rw (e, c.0, c.1) held; carried = rw (e, c.2, c.3) carried }

    well_by : (p : Phase) → ReadingWithin (reading p) → CountBy p blocks (length rs) h.depth
        → ClosedBy p here h blocks named place x work work' ordinates ordinates' records records' cards
        → ClosedWell named place n m (reading p) was r.time.ordinates x work' ordinates' records'
    unfolding with_result
    well_by phase.BeforeTime w k c = idle (reading phase.BeforeTime) refl c
    well_by phase.BeforeBlocks w k c = idle (reading phase.BeforeBlocks) refl c
    well_by phase.InBlock w k c =
        let count : blocks - 1 ≡ length rs = omega arith in
        let f : Finishes (time_is here.time) (block_is r cards) h named place (length rs) x work work' ordinates ordinates' records records' = rw count at c in
        finished f.closed f.closes f.held f.copied f.written
      where
        finished : (closed : std.Result Closed Unclosed) → Closes (time_is here.time) (block_is r cards) h work closed work' → x ≡ held_of closed
            → IfOk closed
            (λ c.
            ordinates' ≡ copied_named named (length rs) r.time.ordinates (part (most_ordinates * (c.held.depth - 1)) r.time.ordinates work') ordinates)
            → IfOk closed (λ c. records' ≡ record_put (length rs) (record_told (block_is r cards).name (time_is here.time).ratio (place + 1) c) records)
            → ClosedWell named place n m (reading phase.InBlock) was r.time.ordinates x work' ordinates' records'
        finished (Err u) closes is copied written = absurd (some_refused u.refusal (sym (ap refusal_in is) ∙ none))
        finished (Ok c) closes is copied written =
            let b = block_is r cards in
            let long : length (rs ++ (result_of (time_is here.time) b h work ∷ [])) ≡ length rs + 1 = length-append rs (result_of (time_is here.time) b h work ∷ []) in
            record {
              held-is = rw is closes.keeps.held;
              held = rw (is, long) (held_more (time_is here.time) b (length rs) h c.held work work' held lw closes.keeps);
              carried = carried_more rs closes (name_short b.name w.1.name) copied written lo lr carried;
            }

    pub closed_well : ReadingWithin (reading_is r cards) → CountBy r.phase blocks (length rs) h.depth
        → ClosedBy r.phase here h blocks named place x work work' ordinates ordinates' records records' cards
        → ClosedWell named place n m (reading_is r cards) was r.time.ordinates x work' ordinates' records'
    closed_well w k c = well_by r.phase w k c
