-- What is read of a KK line: its name, where it is one; else it is refused by 6.
use Rattle.std.specs.Prelude.{ℕ, ◌≤◌, ◌≡◌, true, false, ◌||◌, List, length, Result, Ok, Err}
use Rattle.std.proofs.Common.{arith, ltb-false}
use Rattle.sequences.specs.Choices.{both_fail}
use Rattle.meaning.specs.Words.{◌<?◌, empty}
use Rattle.meaning.specs.Records.{any_blank, bad_name}
use Rattle.refusals.specs.declared.Refusal.{Refusal}
use Rattle.refusals.specs.declared.Refusal.TheVariants.{Malformed}
use Rattle.blocks.specs.declared.Name.{Name}
use Rattle.blocks.specs.Meant.{name_is}

abbrev pub Labels : List ℕ → Result Name Refusal → Type 0
Labels name (Ok given) = (bad_name name ≡ false) × (name_is given ≡ name) × (given.letters ≤ 6)
Labels name (Err refusal) = (bad_name name ≡ true) × (refusal ≡ Malformed)

-- a sound name has six bytes at most
pub name_short : (name : List ℕ) → bad_name name ≡ false → length name ≤ 6
unfolding bad_name
name_short name e = omega (arith, ltb-false 6 (length name) (both_fail (empty name) (6 <? length name) (both_fail (empty name || (6 <? length name)) (any_blank name) e).0).1)
