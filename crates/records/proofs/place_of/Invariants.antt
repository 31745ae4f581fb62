-- The rows from a place on have the key where all of them do.
use mathlib.Core.Path.{◌≡◌}
use lib.ListN.{drop}
use Rattle.meaning.specs.Records.{table}
use Rattle.records.specs.Keys.{place_from}
use Rattle.records.proofs.place_of.Given as goal

abbrev pub invariant-loop-i : goal.invariant-loop-i
invariant-loop-i l = place_from (drop l.i table) l.i l.key ≡ place_from table 0 l.key
