-- What the code's reading means, and what is asked of it and of the open block's words.
--     reading_is       where the reading stands
--     Ready           the reading may go on
--     Begins, Opens   a reading begun, and one with a block just opened
use Rattle.std.specs.Prelude.{ℕ, ◌≤◌, ◌≡◌, List, []}
use Rattle.meaning.specs.Fields.{Form, Fixed}
use Rattle.meaning.specs.Blocks as blocks
use Rattle.meaning.specs.Blocks.{Block, opened}
use Rattle.meaning.specs.Run as run
use Rattle.meaning.specs.Run.{BeforeTime, BeforeBlocks, InBlock}
use Rattle.meaning.specs.Records.{most_ordinates}
use Rattle.fields.specs.Spans.{form_of}
use Rattle.blocks.specs.declared.Name.{Name}
use Rattle.blocks.specs.Meant.{ratios_is, time_is, name_is}
use Rattle.blocks.specs.Cards.{block_of, Counted, Readable}
use Rattle.placing.specs.declared.Phase.{Phase}
use Rattle.placing.specs.declared.Phase.TheVariants as phase
use Rattle.placing.specs.declared.Reading.{Reading}

abbrev pub reading_by : Phase → blocks.Time → Form → Block → run.Reading
reading_by phase.BeforeTime τ form b = BeforeTime form
reading_by phase.BeforeBlocks τ form b = BeforeBlocks τ form
reading_by phase.InBlock τ form b = InBlock τ form b

abbrev pub block_is : Reading → List ℕ → Block
block_is r w = block_of (name_is r.name) w

abbrev pub reading_is : Reading → List ℕ → run.Reading
reading_is r w = reading_by r.phase (time_is r.time) (form_of r.free) (block_is r w)

-- the form and the time control where a reading stands, and the same in another form
abbrev pub form_in : run.Reading → Form
form_in (BeforeTime form) = form
form_in (BeforeBlocks τ form) = form
form_in (InBlock τ form b) = form

abbrev pub time_in : run.Reading → blocks.Time
time_in (BeforeTime form) = record { minutes = 0; ordinates = 0; ratio = 100; listed = [] }
time_in (BeforeBlocks τ form) = τ
time_in (InBlock τ form b) = τ

abbrev pub in_form : Form → run.Reading → run.Reading
in_form next (BeforeTime form) = BeforeTime next
in_form next (BeforeBlocks τ form) = BeforeBlocks τ next
in_form next (InBlock τ form b) = InBlock τ next b

-- a block of that name, opened where a reading stands
abbrev pub opened_in : run.Reading → List ℕ → run.Reading
opened_in r name = InBlock (time_in r) (form_in r) (opened name)

-- Before the first block the words hold nothing that counts; in a block they count no more than it may have.
pub record Ready (r : Reading) (w : List ℕ) : Type 0 where
  pub few_ordinates : r.time.ordinates ≤ most_ordinates
  pub few-ratios : r.time.ratios.count ≤ 9
  pub short-name : r.name.letters ≤ 6
  pub readable : Readable w
  pub counted : r.phase ≡ phase.InBlock → Counted r.time.ordinates w

pub record Begins (r : Reading) (w : List ℕ) : Type 0 where
  pub is : reading_is r w ≡ BeforeTime Fixed
  pub phase : r.phase ≡ phase.BeforeTime
  pub none-listed : ratios_is r.time.ratios ≡ []
  pub ready : Ready r w

pub record Opens (r : Reading) (name : Name) (x : Reading) (w : List ℕ) : Type 0 where
  pub is : reading_is x w ≡ InBlock (time_is r.time) (form_of r.free) (opened (name_is name))
  pub phase : x.phase ≡ phase.InBlock
  pub time : x.time ≡ r.time
  pub ready : Ready x w
