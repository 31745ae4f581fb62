-- Of two rounds what is met first, as the code tells it.
use Rattle.std.specs.Prelude.{ℕ, Bool, true, false, Result, Ok, Err}
use Rattle.refusals.specs.declared.Refused.{Refused}
use Rattle.passes.specs.Apart.{comes_first}
use Rattle.turns.specs.declared.Worked.{Worked}

-- of two refusals, by whether the first one comes first
abbrev pub sooner_by : Bool → (r s : Refused) → Result Worked Refused
sooner_by true r s = Err r
sooner_by false r s = Err s

abbrev pub first_of : (r s : Refused) → Bool
first_of r s = comes_first r.number r.line s.number s.line

-- of the round found, and the next one
abbrev pub sooner_of : (w v : Result Worked Refused) → Result Worked Refused
sooner_of w (Ok v) = w
sooner_of (Ok w) (Err s) = Err s
sooner_of (Err r) (Err s) = sooner_by (first_of r s) r s

-- the blocks of a sound deck; of a refused one none
abbrev pub blocks_in : Result Worked Refused → ℕ
blocks_in (Ok w) = w.blocks
blocks_in (Err r) = 0
