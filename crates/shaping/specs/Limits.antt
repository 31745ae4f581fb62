-- What is asked of the time control and of the cards that were read: they are within the limits of the table of records.
use Rattle.std.specs.Prelude.{ℕ, List, []}
use Rattle.meaning.specs.Records.{Item, RM, row_of}
use Rattle.meaning.specs.Blocks.{Time, Block, card_of, reach_steps, reach_k, reach_x}
use Rattle.limits.specs.Within.{TimeWithin, CardWithin}
use Rattle.blocks.specs.Cards.{block_of, Readable}
use Rattle.routing.specs.Soundness.{Small}

abbrev pub CardsWithin : Block → Type 0
CardsWithin b = (item : Item) → CardWithin (row_of item) (card_of item b)

-- of the words that were read, under any name
pub record Read (τ : Time) (w : List ℕ) : Type 0 where
  pub time : TimeWithin τ
  pub words : Readable w
  pub cards : CardsWithin (block_of [] w)

pub reach_small : (τ : Time) (b : Block) → TimeWithin τ → CardsWithin b → Small (reach_steps b) τ.minutes (reach_k b) (reach_x b)
reach_small τ b time cards =
    let rm = cards RM in
    record { steps = rm.high 0; minutes = time.few-minutes; travel = rm.high 1; weight = rm.high 2 }
