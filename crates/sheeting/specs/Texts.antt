-- The text of a block's sheet, as the code puts it together.
--     block_text    both tables of a block, with their titles, from its columns
--     sheet_at      the sheet of a block where it is found, under the ratio at a place
--     runoff_sheet, no_sheet              by the kind of the block
--     Shown, shown_there, nothing_there   by whether it is there
use Rattle.std.specs.Prelude.{ℕ, ◌≤◌, ◌≡◌, refl, List, [], ◌++◌, get_or, None, Some}
use Rattle.std.proofs.Common.{sym, ap, ◌∙◌, eq-eqb, ne_eqb}
use Rattle.meaning.specs.Words.{when◌then◌else◌}
use Rattle.meaning.specs.Blocks.{Time, Block, ratio_at, under, kind_number, kind_of}
use Rattle.meaning.specs.Sheet.{Sheet, Units, Customary, title_line, table_text, table_of, no_sheet_line, sheet_text}
use Rattle.limits.specs.Within.{within_under}
use Rattle.blocks.specs.Meant.{ratios_is, time_is, time_under, name_is}
use Rattle.blocks.specs.Cards.{block_of}
use Rattle.shaping.specs.Limits.{Read}
use Rattle.finding.specs.declared.Found.{Found}
use Rattle.finding.specs.Place.{Place, Nowhere, At, FoundIs}

abbrev pub block_text : (ratio : ℕ) (name : List ℕ) → Sheet → (sums : List ℕ) → List ℕ
block_text ratio name s sums =
    title_line Units ratio name ++ table_text Units s sums ++ title_line Customary ratio name ++ table_text Customary s sums

abbrev pub sheet_at : (place : ℕ) → Place → List ℕ
sheet_at place Nowhere = []
sheet_at place (At τ b) = sheet_text (under (ratio_at place τ) τ) b

-- by the kind of the block
module _ (τ : Time) (b : Block) (kind : ℕ) (told : kind ≡ kind_number (kind_of b)) where
  pub runoff_sheet : kind ≡ 1 → sheet_text τ b ≡ table_of Units τ b ++ table_of Customary τ b
  unfolding when◌then◌else◌
  runoff_sheet one = rw (eq-eqb (kind_number (kind_of b)) 1 (sym told ∙ one))

  pub no_sheet : (kind ≡ 1 → ⊥) → sheet_text τ b ≡ no_sheet_line kind
  unfolding when◌then◌else◌
  no_sheet other = rw (ne_eqb (kind_number (kind_of b)) 1 (λ e. other (told ∙ e)), told)

-- A BLOCK THAT IS FOUND, under the ratio at a place
pub record Shown (p : Place) (x : Found) (cards : List ℕ) (place ratio : ℕ) : Type 0 where
  pub read : Read (time_is (time_under ratio x.time)) cards
  pub letters : x.name.letters ≤ 6
  pub text : sheet_text (time_is (time_under ratio x.time)) (block_of (name_is x.name) cards) ≡ sheet_at place p

module _ (x : Found) (cards : List ℕ) where
  pub few_listed : (p : Place) → FoundIs p (Some x) cards → x.time.ratios.count ≤ 9
  few_listed Nowhere f = cc
  few_listed (At τ b) f = f.few-ratios

  pub shown_there : (p : Place) → FoundIs p (Some x) cards → (place ratio : ℕ) → ratio ≡ get_or (ratios_is x.time.ratios) place 100 → Shown p x cards place ratio
  shown_there Nowhere f place ratio is = cc
  shown_there (At τ b) f place ratio is =
      let time : time_is (time_under ratio x.time) ≡ under (ratio_at place τ) τ =
      rw is (ap (λ (σ : Time). under (ratio_at place σ) σ) f.time) in
      record {
        read = rw time (record { time = within_under τ place f.read.time; words = f.read.words; cards = f.read.cards });
        letters = f.letters;
        text =
            ap (λ (σ : Time). sheet_text σ (block_of (name_is x.name) cards)) time ∙ ap (λ (c : Block). sheet_text (under (ratio_at place τ) τ) c) f.block;
      }

pub nothing_there : (cards : List ℕ) (p : Place) → FoundIs p None cards → (place : ℕ) → sheet_at place p ≡ []
nothing_there cards Nowhere f place = refl
nothing_there cards (At τ b) f place = absurd f
