-- Where the block is there, its sheet is written under the ratio at the place before the number; where it is not, nothing is.
use Rattle.std.specs.Prelude.{ℕ, List, get_or, ◌-◌, ◌≡◌}
use Rattle.std.proofs.Common.{arith, ap, subst, ◌∙◌}
use Rattle.meaning.specs.Lines.{lines_of}
use Rattle.meaning.specs.Fields.{Fixed}
use Rattle.meaning.specs.Run.{BeforeTime}
use Rattle.meaning.specs.Sheet.{sheet_text}
use Rattle.blocks.specs.declared.Time.{Time}
use Rattle.blocks.specs.Meant.{ratios_is, time_is, name_is}
use Rattle.blocks.specs.Cards.{block_of}
use Rattle.text.specs.Written.{Written, written_none}
use Rattle.finding.specs.Place.{block_at}
use Rattle.sheeting.specs.Texts.{few_listed, shown_there, nothing_there}
use Rattle.sheeting.proofs.sheet_block.Goals as goal

pub ratio_at-rate-requires : goal.ratio_at-rate-requires
ratio_at-rate-requires c =
    few_listed c.in-Some.found c.find_block.new.cards (block_at (lines_of c.args.deck.now) (BeforeTime Fixed) c.args.number) c.in-Some.ensures

pub write_sheet-requires : goal.write_sheet-requires
write_sheet-requires c =
    let own : c.saturating_sub.result ≡ c.args.ratio - 1 = omega (arith, c.saturating_sub.ensures) in
    let sheet = shown_there c.in-Some.found c.find_block.new.cards (block_at (lines_of c.args.deck.now) (BeforeTime Fixed) c.args.number) c.in-Some.ensures _ _
    (c.ratio_at-rate.ensures ∙ ap (λ (k : ℕ). get_or (ratios_is c.in-Some.found.time.ratios) k 100) own) in
    record { read = rw c.under.ensures sheet.read; letters_bound = (sheet.letters, c.requires) }

pub returns : goal.returns
returns c =
    let own : c.saturating_sub.result ≡ c.args.ratio - 1 = omega (arith, c.saturating_sub.ensures) in
    let sheet = shown_there c.in-Some.found c.find_block.new.cards (block_at (lines_of c.args.deck.now) (BeforeTime Fixed) c.args.number) c.in-Some.ensures _ _
    (c.ratio_at-rate.ensures ∙ ap (λ (k : ℕ). get_or (ratios_is c.in-Some.found.time.ratios) k 100) own) in
    let text = ap (λ (t : Time). sheet_text (time_is t) (block_of (name_is c.in-Some.found.name) c.find_block.new.cards)) c.under.ensures ∙ sheet.text in
    subst (λ (t : List ℕ). Written c.args.out.now 0 t c.write_sheet.new.out c.write_sheet.result) text c.write_sheet.ensures

pub returns-in_default : goal.returns-in_default
returns-in_default c =
    rw (nothing_there c.find_block.new.cards (block_at (lines_of c.args.deck.now) (BeforeTime Fixed) c.args.number) c.in_default.ensures (c.args.ratio - 1)) (written_none c.args.out.now 0)
