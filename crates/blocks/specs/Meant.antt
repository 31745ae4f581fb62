-- What the time control, JR's ratios and a block's name mean, as the code has them.
use Rattle.std.specs.Prelude.{List, ℕ, take}
use Rattle.meaning.specs.Blocks as blocks
use Rattle.blocks.specs.declared.Ratios.{Ratios}
use Rattle.blocks.specs.declared.Time.{Time}
use Rattle.blocks.specs.declared.Name.{Name}

abbrev pub ratios_is : Ratios → List ℕ
ratios_is r = take r.count r.values

abbrev pub time_is : Time → blocks.Time
time_is t = record { minutes = t.minutes; ordinates = t.ordinates; ratio = t.ratio; listed = ratios_is t.ratios }

-- with another ratio in force
abbrev pub time_under : ℕ → Time → Time
time_under ratio t = record { minutes = t.minutes; ordinates = t.ordinates; ratio = ratio; ratios = t.ratios }

abbrev pub name_is : Name → List ℕ
name_is name = take name.letters name.bytes
