-- What a table is made from, as the code is lent it.
--     ruled    the sheet of so many intervals as there are excesses; ruled_of: by their number
--     Ruled    what is asked of it: a rain and a loss for each excess, and no figure too large
--     columns_are, RuledColumns   the same of the columns that the code is lent
--     row_at    the row of an interval, if it has excess
use Rattle.std.specs.Prelude.{ℕ, ◌≡◌, List, [], length, get_or}
use Rattle.sequences.specs.Bounds.{AllUpTo}
use Rattle.meaning.specs.Words.{◌<?◌, when◌then◌else◌}
use Rattle.meaning.specs.Sheet.{Measure, Sheet, row_line}
use Rattle.cells.specs.Sizes.{most_depth, most_unit}
use Rattle.sheets.specs.declared.Columns.{Columns}

abbrev pub ruled : (units rains losses excesses : List ℕ) → Sheet
ruled units rains losses excesses = record { units = units; rains = rains; losses = losses; excesses = excesses; intervals = length excesses }

pub ruled_of : (units rains losses excesses : List ℕ) (n : ℕ) → length excesses ≡ n
    → ruled units rains losses excesses ≡ record { units = units; rains = rains; losses = losses; excesses = excesses; intervals = n }
ruled_of units rains losses excesses n long = rw long

pub record Ruled (units rains losses excesses : List ℕ) : Type 0 where
  pub rain-each : length rains ≡ length excesses
  pub loss-each : length losses ≡ length excesses
  pub units-up : AllUpTo most_unit units
  pub rains-up : AllUpTo most_depth rains
  pub losses-up : AllUpTo most_depth losses
  pub excesses-up : AllUpTo most_depth excesses

abbrev pub columns_are : Columns → Sheet
columns_are c = ruled c.units.now c.rains.now c.losses.now c.excesses.now

abbrev pub RuledColumns : Columns → Type 0
RuledColumns c = Ruled c.units.now c.rains.now c.losses.now c.excesses.now

abbrev pub row_at : Measure → Sheet → (k : ℕ) → List ℕ
row_at m s k = when 0 <? get_or s.excesses k 0 then row_line m s k else []
