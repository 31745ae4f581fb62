-- What a walk says of a deck: the number and the line of a refusal, or the ordinates, the blocks and the ratios that it lists.
--     said      as the code has it
--     said_of    as the definitions do
use Rattle.std.specs.Prelude as std
use Rattle.std.specs.Prelude.{ℕ, Ok, Err, List}
use Rattle.meaning.specs.Run as run
use Rattle.meaning.specs.Run.{Stopped, Done, block_count}
use Rattle.refusals.specs.declared.Refused as refusals
use Rattle.turns.specs.declared.Worked.{Worked}
use Rattle.blocks.specs.Meant.{ratios_is}
use Rattle.walking.specs.declared.Walked.{Walked}

pub data Said : Type 0 where
  Refused : (number line : ℕ) → Said
  Accepted : (nq blocks : ℕ) → (listed : List ℕ) → Said

abbrev pub said_by : std.Result Worked refusals.Refused → (listed : List ℕ) → Said
said_by (Err r) listed = Refused r.number r.line
said_by (Ok w) listed = Accepted w.nq w.blocks listed

abbrev pub said : Walked → Said
said w = said_by w.worked (ratios_is w.ratios)

abbrev pub said_of : run.Worked → Said
said_of (Stopped number line) = Refused number line
said_of (Done τ rss) = Accepted τ.ordinates (block_count rss) τ.listed
