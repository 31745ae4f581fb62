-- That what is done where a block is opened (kk_turn) and where the deck ends (zz_turn) is a turn of the run. What it is told of the block closed is told_is.
use Rattle.std.specs.Prelude as std
use Rattle.std.specs.Prelude.{ℕ, ◌+◌, ◌-◌, ◌*◌, ◌≤◌, ◌<◌, ◌≡◌, refl, Ok, Err, List, length, drop}
use Rattle.std.proofs.Common.{ap, ◌∙◌, inl, inr, ⊎_elim}
use Rattle.sequences.specs.Choices.{below_or_not}
use Rattle.sequences.specs.Parts.{part}
use Rattle.meaning.specs.Lines.{lines_of}
use Rattle.meaning.specs.Records.{most_ordinates}
use Rattle.meaning.specs.Blocks.{or_whole}
use Rattle.meaning.specs.Run.{Open, End, Only, Stopped, worked_under, most_blocks}
use Rattle.events.specs.NextEvent.{Met, next_event}
use Rattle.placing.specs.declared.Reading.{Reading}
use Rattle.blocks.specs.declared.Name.{Name}
use Rattle.blocks.specs.Meant.{name_is}
use Rattle.placing.specs.Readings.{reading_is, time_in, Ready, opened_in}
use Rattle.turns.specs.declared.State.{State}
use Rattle.turns.specs.declared.Turn.{Turn}
use Rattle.turns.specs.declared.Turn.TheVariants as turn
use Rattle.turns.specs.declared.Worked.{Worked}
use Rattle.refusals.specs.declared.Refused.{Refused}
use Rattle.refusals.specs.Numbers.{refusal_number, refusal_in}
use Rattle.turns.specs.Turns.{Finished, stack_in, Stops, GoesOn, worked_well, copied_last, Told, told, OpensNext, EndsDeck, told_number, told_held, is_or_not}
use Rattle.passes.specs.Apart.{ratio_count}
use Rattle.walking.specs.Going.{Going, listed_in, reading_under, ClosedBy, TurnIs}
use Rattle.walking.specs.ReadingOn.{found-counted}
use Rattle.walking.specs.Ways.{kk_counted, kk_refused, kk_too_many, kk_goes, zz_refused, zz_not_one, zz_done}

-- a turn, where the next block is opened, and where the deck ends
abbrev pub gone_on : std.Result State Refused → std.Result Turn Refused
gone_on (Ok s) = Ok (turn.GoesOn s)
gone_on (Err r) = Err r

abbrev pub ended : std.Result Worked Refused → std.Result Turn Refused
ended (Ok w) = Ok (turn.Ended w)
ended (Err r) = Err r

-- a block's refusal told by its number
pub told_is : (x : Finished) (y : Told) → std.MatchResult x (λ s. y ≡ Ok s) (λ r. std.IsErrAnd y (λ k. k ≡ refusal_number r)) → y ≡ told x
told_is (Ok s) y h = h
told_is (Err r) (Ok s) h = absurd h
told_is (Err r) (Err k) h = ap Err h

module _ (deck : List ℕ) (named place n m : ℕ) (s : State) (work ordinates records cards : List ℕ) (g : Going deck named place n m s work ordinates records cards)
    (r : Reading) (line at : ℕ) (cards' : List ℕ) (ready : Ready r cards') (x : Finished) (work' ordinates' records' : List ℕ)
    (is : ClosedBy r.phase (reading_under place r) s.held s.blocks named place x work work' ordinates ordinates' records records' cards')
    (lw : length work' ≡ length work) (lo : length ordinates' ≡ length ordinates) (lr : length records' ≡ length records) where
  pub kk_turn : (name : Name)
      → next_event (lines_of (drop s.at deck)) (reading_is s.reading cards) (s.line + 1)
      ≡ Met (Open (opened_in (reading_is r cards') (name_is name))) (reading_is r cards') line (lines_of (drop at deck))
      → at ≤ length deck → line ≤ at → s.at < at → (cards'' : List ℕ) (t : std.Result State Refused) → OpensNext r name at line (told x) s.blocks t cards''
      → TurnIs deck named place n m s (gone_on t) work' ordinates' records' cards''
  kk_turn name found up counted forth cards'' t o =
      let rest = lines_of (drop at deck) in
      ⊎_elim
      (λ z.
      ⊎_elim
      (λ few. goes t (opened z few) z few)
      (λ many.
      stops t 14 (told_held (λ held. most_blocks ≤ s.blocks → Stops 14 line t) x o.many z many)
      (kk_too_many deck named place n m s work ordinates records cards g r line rest cards' ready x work' ordinates' records' is name found z many)
      (kk_counted deck named place n m s work ordinates records cards g r line rest cards' ready x work' ordinates' records' is name found (inr many)))
      (below_or_not s.blocks most_blocks))
      (λ some.
      stops t (refusal_in x) (told_number (λ number. Stops number line t) x o.refused some)
      (kk_refused deck named place n m s work ordinates records cards g r line rest cards' ready x work' ordinates' records' is name found some)
      (kk_counted deck named place n m s work ordinates records cards g r line rest cards' ready x work' ordinates' records' is name found (inl some)))
      (is_or_not (refusal_in x) 0)
    where
      opened : refusal_in x ≡ 0 → s.blocks < most_blocks → GoesOn r (stack_in x) name at line s.blocks t cards''
      opened = told_held (λ held. s.blocks < most_blocks → GoesOn r held name at line s.blocks t cards'') x o.goes

      goes : (t : std.Result State Refused) → GoesOn r (stack_in x) name at line s.blocks t cards'' → refusal_in x ≡ 0 → s.blocks < most_blocks
          → TurnIs deck named place n m s (gone_on t) work' ordinates' records' cards''
      goes (Err e) on z few = absurd on
      goes (Ok u) on z few = (
        kk_goes deck named place n m s work ordinates records cards g r line (lines_of (drop at deck)) cards' ready x work' ordinates' records' is name found at refl up counted few lw lo lr z u
            cards'' on,
        rw on.place forth,
      )

      stops : (t : std.Result State Refused) (number : ℕ) → Stops number line t → worked_under (Only place) deck ≡ Stopped number line
          → length (or_whole (listed_in s)) ≡ ratio_count deck → TurnIs deck named place n m s (gone_on t) work' ordinates' records' cards''
      stops (Ok u) number h is counted = absurd h
      stops (Err e) number h is counted = (is ∙ rw (h.0, h.1), counted)

  pub zz_turn : next_event (lines_of (drop s.at deck)) (reading_is s.reading cards) (s.line + 1) ≡ Met (End (time_in (reading_is r cards'))) (reading_is r cards') line (lines_of (drop at deck))
      → (ordinates'' : List ℕ) (t : std.Result Worked Refused) → EndsDeck r.time.ordinates line (told x) s.blocks named t work' ordinates' ordinates''
      → TurnIs deck named place n m s (ended t) work' ordinates'' records' cards'
  zz_turn found ordinates'' t o =
      let rest = lines_of (drop at deck) in
      ⊎_elim
      (λ z.
      ⊎_elim
      (λ one.
      let end = done z one in
      rw end.0
      (zz_done deck named place n m s work ordinates records cards g r line rest cards' ready x work' ordinates' records' is found lw lo lr z one ordinates'' end.1, counted))
      (λ other.
      stops t 15 (told_held (λ held. (held.depth ≡ 1 → ⊥) → Stops 15 line t) x o.not-one z other)
      (zz_not_one deck named place n m s work ordinates records cards g r line rest cards' ready x work' ordinates' records' is found lw lo lr z other))
      (is_or_not (stack_in x).depth 1))
      (λ some.
      stops t (refusal_in x) (told_number (λ number. Stops number line t) x o.refused some)
      (zz_refused deck named place n m s work ordinates records cards g r line rest cards' ready x work' ordinates' records' is found some))
      (is_or_not (refusal_in x) 0)
    where
      done : refusal_in x ≡ 0 → (stack_in x).depth ≡ 1
          → (t ≡ worked_well r.time.ordinates s.blocks) × (ordinates'' ≡ copied_last named r.time.ordinates (part (most_ordinates * ((stack_in x).depth - 1)) r.time.ordinates work') ordinates')
      done =
          told_held
          (λ held. held.depth ≡ 1
          → (t ≡ worked_well r.time.ordinates s.blocks) × (ordinates'' ≡ copied_last named r.time.ordinates (part (most_ordinates * (held.depth - 1)) r.time.ordinates work') ordinates'))
          x o.done

      counted : length (or_whole (listed_in s)) ≡ ratio_count deck
      counted =
          found-counted deck named place n m s work ordinates records cards g (Met (End (time_in (reading_is r cards'))) (reading_is r cards') line (lines_of (drop at deck))) found refl

      stops : (t : std.Result Worked Refused) (number : ℕ) → Stops number line t → worked_under (Only place) deck ≡ Stopped number line
          → TurnIs deck named place n m s (ended t) work' ordinates'' records' cards'
      stops (Ok w) number h is = absurd h
      stops (Err e) number h is = (is ∙ rw (h.0, h.1), counted)
