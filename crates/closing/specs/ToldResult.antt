-- What is told of a closed block is the result of the definitions.
--     result_of                                that result
--     told_number, told_record, told_flow     its refusal; and where there is none, the record and the ordinates that are written
use Rattle.std.specs.Prelude.{ℕ, ◌-◌, ◌*◌, ◌≡◌, List, Ok}
use Rattle.std.specs.Prelude as prelude
use Rattle.std.proofs.Common.{sym, ap, ◌∙◌}
use Rattle.sequences.specs.Parts.{part}
use Rattle.meaning.specs.Blocks.{Time, Block, kind_of}
use Rattle.meaning.specs.Results.{Result, record_of}
use Rattle.meaning.specs.Run.{held_for}
use Rattle.meaning.specs.Records.{most_ordinates}
use Rattle.stack.specs.declared.Stack.{Stack}
use Rattle.stack.specs.View.{view}
use Rattle.results.specs.Record.{record_of_lem}
use Rattle.telling.specs.declared.Closed.{Closed}
use Rattle.telling.specs.LastHeld.{view_last}
use Rattle.writing.specs.WrittenResult.{record_told}
use Rattle.passes.specs.One.{closing_under}
use Rattle.closing.specs.declared.Unclosed.{Unclosed}
use Rattle.closing.specs.ClosedBlock.{number_in, Closes, closed_block, answer_none}

abbrev pub result_of : Time → Block → Stack → List ℕ → Result
result_of τ b s w = record { block = b; held = held_for τ b (view s τ.ordinates w) }

module _ {τ : Time} {b : Block} {s : Stack} {w w' : List ℕ} where
  pub told_number : {r : prelude.Result Closed Unclosed} → Closes τ b s w r w' → number_in r ≡ closing_under τ b (view s τ.ordinates w)
  told_number closes = closes.number

  module _ {c : Closed} (closes : Closes τ b s w (Ok c) w') where
    told : c ≡ closed_block (kind_of b) b s (result_of τ b s w).held
    told = answer_none (kind_of b) b s (result_of τ b s w).held (closing_under τ b (view s τ.ordinates w)) closes.answer closes.number

    pub told_record : (ratio place : ℕ) → record_told b.name ratio place c ≡ record_of ratio place (result_of τ b s w)
    told_record ratio place = ap (record_told b.name ratio place) told ∙ sym (record_of_lem ratio place (result_of τ b s w))

    pub told_flow : part (most_ordinates * (c.held.depth - 1)) τ.ordinates w' ≡ (result_of τ b s w).held.flow
    told_flow = (view_last c.held τ.ordinates w' closes.keeps.held).flow
