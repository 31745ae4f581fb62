-- The columns of a runoff block that was read may be ruled and printed, and what is printed of them are the tables of its sheet.
use Rattle.std.specs.Prelude.{ℕ, ◌≡◌, List, ◌++◌, length}
use Rattle.std.proofs.Common.{sym, ap, subst, ◌∙◌, append_assoc, arith}
use Rattle.sequences.specs.Bounds.{AllUpTo}
use Rattle.sequences.specs.Sums.{length-list_from}
use Rattle.meaning.specs.Water.{rain_of}
use Rattle.meaning.specs.Blocks.{Time, Block, rain, rain_values, unit_ordinates}
use Rattle.meaning.specs.Sheet.{Sheet, Units, Customary, sheet_of, column_sum, column_sums, title_line, table_text, table_of}
use Rattle.storms.specs.Rains.{rain_up}
use Rattle.excess.specs.Storms.{most_excess, fall_up}
use Rattle.excess.specs.Balance.{block-loss_and_excess}
use Rattle.runoff.specs.Storm.{StormWithin}
use Rattle.stack.specs.Kinds.{block_storm}
use Rattle.cells.specs.Sizes.{most_depth}
use Rattle.sheets.specs.Tables.{ruled, Ruled, ruled_of}
use Rattle.columns.specs.Columns.{ColumnsAre, block-rain, length-block-rain, length-block-loss, length-block-excess}
use Rattle.sheeting.specs.Texts.{block_text}

module _ (τ : Time) (b : Block) (within : StormWithin (unit_ordinates b) (rain_values b) (block_storm τ b) τ.ordinates) where
  rain_within : AllUpTo most_depth (rain τ b)
  rain_within k =
      let up = fall_up (block_storm τ b) (rain_of (rain_values b) τ.ordinates) within.total_up within.ratio_up (rain_up (rain_values b) within.rains_up τ.ordinates) in
      omega (arith, subst (AllUpTo most_excess) (block-rain τ b) up k)

  module _ {rains losses excesses sums : List ℕ} (c : ColumnsAre τ b rains losses excesses sums) where
    long : length excesses ≡ τ.ordinates
    long = ap length c.excesses_are ∙ length-block-excess τ b

    pub columns-ruled : Ruled (unit_ordinates b) rains losses excesses
    columns-ruled =
        record {
          rain-each = ap length c.rains_are ∙ length-block-rain τ b ∙ sym long;
          loss-each = ap length c.losses-are ∙ length-block-loss τ b ∙ sym long;
          units-up = within.units_up;
          rains-up = rw c.rains_are rain_within;
          losses-up = rw c.losses-are (λ (k : ℕ). omega (arith, rain_within k, block-loss_and_excess τ b k));
          excesses-up = rw c.excesses_are (λ (k : ℕ). omega (arith, rain_within k, block-loss_and_excess τ b k));
        }

    pub columns_long : (length sums ≡ length excesses) × (length excesses ≡ τ.ordinates)
    columns_long = (ap length c.sums-are ∙ length-list_from (column_sum (sheet_of τ b)) 0 τ.ordinates ∙ sym long, long)

    pub columns-text : block_text τ.ratio b.name (ruled (unit_ordinates b) rains losses excesses) sums ≡ table_of Units τ b ++ table_of Customary τ b
    columns-text =
        let sheet : ruled (unit_ordinates b) rains losses excesses ≡ sheet_of τ b =
        ruled_of (unit_ordinates b) rains losses excesses τ.ordinates long ∙ rw (c.rains_are, c.losses-are, c.excesses_are) in
        ap (λ (s : Sheet). block_text τ.ratio b.name s sums) sheet ∙ ap (λ (q : List ℕ). block_text τ.ratio b.name (sheet_of τ b) q) c.sums-are
        ∙ append_assoc (table_of Units τ b) (title_line Customary τ.ratio b.name) (table_text Customary (sheet_of τ b) (column_sums (sheet_of τ b)))
