-- Where the run stands between two blocks, and what it comes to.
--     Going      the run's invariant: the walk over the lines left, from here, is the walk over the deck
--     WorkedIs   what the deck came to, and WalkedIs with its ratios
use Rattle.std.specs.Prelude as std
use Rattle.std.specs.Prelude.{ℕ, ◌+◌, ◌-◌, ◌*◌, ◌≤◌, ◌<◌, ◌≡◌, Ok, Err, IfOk, List, [], ◌∷◌, ◌++◌, length, drop, get_or, replicate}
use Rattle.sequences.specs.Parts.{part}
use Rattle.meaning.specs.Lines.{lines_of}
use Rattle.meaning.specs.Blocks.{Time, or_whole, ratio_at, Block}
use Rattle.meaning.specs.Results.{Result, record_size}
use Rattle.meaning.specs.Run as run
use Rattle.meaning.specs.Run.{Stopped, Done, Run, Standing, Only, walk, worked_under, named_flow, most_blocks}
use Rattle.meaning.specs.Records.{most_ordinates}
use Rattle.limits.specs.Within.{ReadingWithin}
use Rattle.results.specs.Records.{Named, Each, records_in}
use Rattle.placing.specs.declared.Phase.{Phase}
use Rattle.placing.specs.declared.Phase.TheVariants as phase
use Rattle.placing.specs.declared.Reading.{Reading}
use Rattle.blocks.specs.Meant.{ratios_is, time_is, time_under}
use Rattle.placing.specs.Readings.{reading_is, Ready, block_is}
use Rattle.stack.specs.declared.Stack.{Stack}
use Rattle.stack.specs.View.{view}
use Rattle.telling.specs.declared.Closed.{Closed}
use Rattle.writing.specs.WrittenResult.{record_told, record_put, copied_named}
use Rattle.closing.specs.declared.Unclosed.{Unclosed}
use Rattle.closing.specs.ClosedBlock.{Closes}
use Rattle.closing.specs.BetweenBlocks.{Carried, HeldAfter}
use Rattle.turns.specs.declared.State.{State}
use Rattle.refusals.specs.declared.Refused.{Refused}
use Rattle.turns.specs.Turns.{Finished}
use Rattle.turns.specs.declared.Worked.{Worked}
use Rattle.turns.specs.declared.Turn.{Turn}
use Rattle.turns.specs.declared.Turn.TheVariants as turn
use Rattle.walking.specs.declared.Walked.{Walked}
use Rattle.passes.specs.Apart.{count_from, ratio_count}
use Rattle.passes.specs.One.{time_at}
use Rattle.walking.specs.OneRun.{alone, standing}

-- how many blocks were opened, for each phase, with so many results and so many held
abbrev pub CountBy : Phase → (blocks results depth : ℕ) → Type 0
CountBy phase.BeforeTime blocks results depth = (blocks ≡ 0) × (results ≡ 0) × (depth ≡ 0)
CountBy phase.BeforeBlocks blocks results depth = (blocks ≡ 0) × (results ≡ 0) × (depth ≡ 0)
CountBy phase.InBlock blocks results depth = (blocks ≡ results + 1) × (blocks ≤ most_blocks)

-- how many ratios the deck has, by where the walk stands: it is still to be found before the first block, and those listed in one
abbrev pub RatiosBy : Phase → List (List ℕ) → run.Reading → (listed : List ℕ) → (ratios : ℕ) → Type 0
RatiosBy phase.BeforeTime lines r listed ratios = (count_from lines r ≡ ratios) × (listed ≡ [])
RatiosBy phase.BeforeBlocks lines r listed ratios = (count_from lines r ≡ ratios) × (listed ≡ [])
RatiosBy phase.InBlock lines r listed ratios = length (or_whole listed) ≡ ratios

-- where the walk stands, with its results so far
abbrev pub run_of : ℕ → Reading → Stack → List Result → List ℕ → Run
run_of place r held rs work = alone (time_at place (time_is r.time)) (view held r.time.ordinates work) rs

abbrev pub listed_in : State → List ℕ
listed_in s = ratios_is s.reading.time.ratios

abbrev pub stands_at : ℕ → State → List Result → List ℕ → Standing
stands_at place s rs work = standing s.reading.phase s.blocks (run_of place s.reading s.held rs work)

-- n ordinates and m bytes of records are lent; the walk is that under the ratio at a place
pub record Going (deck : List ℕ) (named place n m : ℕ) (s : State) (work ordinates records cards : List ℕ) : Type 0 where
  pub results : List Result
  pub few-ratios : place ≤ 9
  pub up : s.at ≤ length deck
  pub counted : s.line ≤ s.at
  pub ready : Ready s.reading cards
  pub within : ReadingWithin (reading_is s.reading cards)
  pub held : HeldAfter (length results) s.held s.reading.time.ordinates work
  pub count : CountBy s.reading.phase s.blocks (length results) s.held.depth
  pub carried : Carried named place (time_at place (time_is s.reading.time)) n m results ordinates records
  pub ratios : RatiosBy s.reading.phase (lines_of (drop s.at deck)) (reading_is s.reading cards) (listed_in s) (ratio_count deck)
  pub walked : walk (Only place) (lines_of (drop s.at deck)) (reading_is s.reading cards) (stands_at place s results work) (s.line + 1) ≡ worked_under (Only place) deck

-- An accepted deck: its results, and what was lent says of them; and the ratios that it lists.
pub record DoneIs (deck : List ℕ) (named place n m : ℕ) (listed : List ℕ) (nq blocks : ℕ) (ordinates records : List ℕ) : Type 0 where
  pub time : Time
  pub results : List Result
  pub done : worked_under (Only place) deck ≡ Done time (results ∷ [])
  pub listed-are : time.listed ≡ listed
  pub ordinates-are : time.ordinates ≡ nq
  pub blocks-are : length results ≡ blocks
  pub few : blocks ≤ most_blocks
  pub names : Each Named results
  pub told : record_size * length results ≤ m → records ≡ records_in (ratio_at place time) (place + 1) m results
  pub flow : named ≤ length results → nq ≤ n → ordinates ≡ named_flow named results ++ replicate (n - nq) 0

-- what the work on a deck came to: refused, or sound
abbrev pub WorkedIs : List ℕ → (named place n m : ℕ) → (listed : List ℕ) → std.Result Worked Refused → (ordinates records : List ℕ) → Type 0
WorkedIs deck named place n m listed (Err r) ordinates records = worked_under (Only place) deck ≡ Stopped r.number r.line
WorkedIs deck named place n m listed (Ok w) ordinates records = DoneIs deck named place n m listed w.nq w.blocks ordinates records

-- the same where the walk stands in a state, whose ratios are the deck's
abbrev pub EndsIn : List ℕ → (named place n m : ℕ) → State → std.Result Worked Refused → (ordinates records : List ℕ) → Type 0
EndsIn deck named place n m from w ordinates records =
    WorkedIs deck named place n m (listed_in from) w ordinates records × (length (or_whole (listed_in from)) ≡ ratio_count deck)

-- A turn from a state: the run goes on further behind; or the deck is worked.
abbrev pub TurnIs : List ℕ → (named place n m : ℕ) → State → std.Result Turn Refused → (work ordinates records cards : List ℕ) → Type 0
TurnIs deck named place n m from (Ok (turn.GoesOn next)) work ordinates records cards = Going deck named place n m next work ordinates records cards × (from.at < next.at)
TurnIs deck named place n m from (Ok (turn.Ended w)) work ordinates records cards = EndsIn deck named place n m from (Ok w) ordinates records
TurnIs deck named place n m from (Err r) work ordinates records cards = EndsIn deck named place n m from (Err r) ordinates records

-- A deck walked: what it came to, and the ratios in force where it did.
pub record WalkedIs (deck : List ℕ) (named place n m : ℕ) (w : Walked) (ordinates records : List ℕ) : Type 0 where
  pub worked : WorkedIs deck named place n m (ratios_is w.ratios) w.worked ordinates records
  pub ratios : length (or_whole (ratios_is w.ratios)) ≡ ratio_count deck
  pub few-ratios : w.ratios.count ≤ 9

-- the reading with the ratio at a place in force
abbrev pub reading_under : ℕ → Reading → Reading
reading_under place r =
    record { phase = r.phase; free = r.free; time = time_under (get_or (ratios_is r.time.ratios) place 100) r.time; name = r.name }

-- what is held where a block is closed, or what it is refused for
abbrev pub held_of : std.Result Closed Unclosed → Finished
held_of (Ok c) = Ok c.held
held_of (Err u) = Err u.refusal

-- A block finished: closed, and, if it was not refused, its result written under the ratio at a place, counted from 0.
pub record Finishes (τ : Time) (b : Block) (s : Stack) (named place k : ℕ) (x : Finished) (work work' ordinates ordinates' records records' : List ℕ) : Type 0 where
  pub closed : std.Result Closed Unclosed
  pub closes : Closes τ b s work closed work'
  pub held : x ≡ held_of closed
  pub copied : IfOk closed (λ c. ordinates' ≡ copied_named named k τ.ordinates (part (most_ordinates * (c.held.depth - 1)) τ.ordinates work') ordinates)
  pub written : IfOk closed (λ c. records' ≡ record_put k (record_told b.name τ.ratio (place + 1) c) records)

-- where a block closes, by the phase: the open block is finished; else nothing was open
abbrev pub ClosedBy : Phase → Reading → Stack → (blocks named place : ℕ) → Finished → (work work' ordinates ordinates' records records' cards : List ℕ) → Type 0
ClosedBy phase.BeforeTime r held blocks named place x work work' ordinates ordinates' records records' cards =
    (x ≡ Ok held) × (work' ≡ work) × (ordinates' ≡ ordinates) × (records' ≡ records)
ClosedBy phase.BeforeBlocks r held blocks named place x work work' ordinates ordinates' records records' cards =
    (x ≡ Ok held) × (work' ≡ work) × (ordinates' ≡ ordinates) × (records' ≡ records)
ClosedBy phase.InBlock r held blocks named place x work work' ordinates ordinates' records records' cards =
    Finishes (time_is r.time) (block_is r cards) held named place (blocks - 1) x work work' ordinates ordinates' records records'

-- what is asked of an open block before which k were closed, and of the place of the ratio
pub record MayFinish (r : Reading) (s : Stack) (k ratio : ℕ) (work cards : List ℕ) : Type 0 where
  pub ready : Ready r cards
  pub place : r.phase ≡ phase.InBlock
  pub within : ReadingWithin (reading_is r cards)
  pub held : HeldAfter k s r.time.ordinates work
  pub few : k ≤ 199
  pub few-ratios : ratio ≤ 9

-- by another count of the blocks before, if it is the same
pub held_as : {s : Stack} {nq : ℕ} {w : List ℕ} (k before : ℕ) → k ≡ before → HeldAfter before s nq w → HeldAfter k s nq w
held_as k before e h = rw e h

-- and where one may be open: so many were closed before
pub record MayClose (r : Reading) (s : Stack) (blocks ratio : ℕ) (work cards : List ℕ) : Type 0 where
  pub ready : Ready r cards
  pub within : ReadingWithin (reading_is r cards)
  pub before : ℕ
  pub held : HeldAfter before s r.time.ordinates work
  pub count : CountBy r.phase blocks before s.depth
  pub few-ratios : ratio ≤ 9
