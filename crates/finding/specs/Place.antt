-- The block of a number in a deck, line by line: it is what is open where the KK or the ZZ that closes it is read.
--     block_at    its time control and its values; nowhere, where a line before is refused or none closes it
--     FoundIs    what the code answers of it
use Rattle.std.specs.Prelude.{ℕ, zero, suc, ◌≤◌, ◌≡◌, List, [], ◌∷◌, Option, None, Some}
use Rattle.meaning.specs.Records.{most_ordinates}
use Rattle.meaning.specs.Blocks.{Time, Block}
use Rattle.meaning.specs.Run as run
use Rattle.meaning.specs.Run.{BeforeTime, BeforeBlocks, InBlock, Event, Refuse, Go, Open, End, read_line}
use Rattle.blocks.specs.Meant.{time_is, name_is}
use Rattle.blocks.specs.Cards.{block_of}
use Rattle.placing.specs.declared.Phase.{Phase}
use Rattle.placing.specs.declared.Phase.TheVariants as phase
use Rattle.placing.specs.declared.Reading.{Reading}
use Rattle.shaping.specs.Limits.{Read}
use Rattle.finding.specs.declared.Found.{Found}

pub data Place : Type 0 where
  Nowhere : Place
  At : Time → Block → Place

-- what a KK or ZZ closes
abbrev pub closed_in : run.Reading → Place
closed_in (BeforeTime form) = Nowhere
closed_in (BeforeBlocks τ form) = Nowhere
closed_in (InBlock τ form b) = At τ b

-- So many KK are left before the line that closes it. What is held is not looked at.
abbrev pub place_by : Event → run.Reading → (left : ℕ) → (run.Reading → ℕ → Place) → Place
place_by (Refuse number) r left go = Nowhere
place_by (Go next) r left go = go next left
place_by (Open next) r zero go = closed_in r
place_by (Open next) r (suc left) go = go next left
place_by (End τ) r zero go = closed_in r
place_by (End τ) r (suc left) go = Nowhere

-- Before the first KK so many are left as the block's number says, which is counted from 1.
unfoldable pub block_at : List (List ℕ) → run.Reading → (left : ℕ) → Place
block_at [] r left = Nowhere
block_at (l ∷ ls) r left = place_by (read_line r l) r left (λ (next : run.Reading) (n : ℕ). block_at ls next n)

-- THE CODE'S ANSWER. A block that is there: its values are in the cards, and all that was read is within the limits of the table.
pub record BlockIs (τ : Time) (b : Block) (x : Found) (cards : List ℕ) : Type 0 where
  pub time : time_is x.time ≡ τ
  pub block : block_of (name_is x.name) cards ≡ b
  pub letters : x.name.letters ≤ 6
  pub few_ordinates : x.time.ordinates ≤ most_ordinates
  pub few-ratios : x.time.ratios.count ≤ 9
  pub read : Read τ cards

abbrev pub FoundIs : Place → Option Found → (cards : List ℕ) → Type 0
FoundIs Nowhere x cards = x ≡ None
FoundIs (At τ b) None cards = ⊥
FoundIs (At τ b) (Some x) cards = BlockIs τ b x cards

abbrev pub found_by : Phase → Reading → Option Found
found_by phase.BeforeTime r = None
found_by phase.BeforeBlocks r = None
found_by phase.InBlock r = Some (record { time = r.time; name = r.name })

abbrev pub found_at : Reading → Option Found
found_at r = found_by r.phase r
