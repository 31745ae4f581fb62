-- The columns that were filled may be printed, and are those of the block's sheet.
use Rattle.std.proofs.Common.{ℕ, List, arith, ap, subst, ◌∙◌}
use Rattle.meaning.specs.Records.{UI}
use Rattle.meaning.specs.Blocks as blocks
use Rattle.meaning.specs.Blocks.{rain_values, unit_ordinates}
use Rattle.blocks.specs.Meant.{time_is, name_is}
use Rattle.blocks.specs.Cards.{block_of}
use Rattle.blocks.specs.Values.{values_few}
use Rattle.shaping.specs.Limits.{Read}
use Rattle.runoff.specs.Storm.{StormWithin}
use Rattle.stack.specs.Kinds.{block_storm}
use Rattle.making.specs.Kinds.{storm-read}
use Rattle.text.specs.Written.{Written}
use Rattle.sheets.specs.Tables.{ruled}
use Rattle.sheeting.specs.Texts.{block_text}
use Rattle.sheeting.specs.Columns.{columns-ruled, columns-text}
use Rattle.sheeting.proofs.write_columns.Goals as goal

-- a block that was read lends its storm within its limits
read_within : (τ : blocks.Time) (name cards : List ℕ) → Read τ cards → let b = block_of name cards in StormWithin (unit_ordinates b) (rain_values b) (block_storm τ b) τ.ordinates
read_within τ name cards read = storm-read τ (block_of name cards) read.time read.cards (values_few UI name cards (omega arith) read.words.long)

pub write_tables-requires-clause-ruled : goal.write_tables-requires-clause-ruled
write_tables-requires-clause-ruled c =
    let τ = time_is c.args.time in
    let name = name_is c.args.name in
    let cards = c.args.cards.now in
    rw (c.values-units.ensures name) (columns-ruled τ (block_of name cards) (read_within τ name cards c.requires.read) (c.fill_columns.ensures name))

pub returns : goal.returns
returns c =
    let τ = time_is c.args.time in
    let name = name_is c.args.name in
    let cards = c.args.cards.now in
    let fill = c.fill_columns in
    let written = c.write_tables in
    let text =
    ap (λ (us : List ℕ). block_text τ.ratio name (ruled us fill.new.rains fill.new.losses fill.new.excesses) fill.new.sums) (c.values-units.ensures name)
    ∙ columns-text τ (block_of name cards) (read_within τ name cards c.requires.read) (fill.ensures name) in
    subst (λ (t : List ℕ). Written c.args.out.now 0 t written.new.out written.result) text written.ensures
