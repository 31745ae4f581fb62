-- A block that its shape refuses is not made; one that is made is the last held, and each way out is a law of blocks closed.
use mathlib.Core.Path.{◌≡◌, sym, ap, ◌∙◌}
use mathlib.Core.List.{[]}
use native.Mathlib.Omega.{arith}
use lib.ListN.{length}
use Rattle.std.specs.Prelude.{Bool, true, false, refl, Result, Ok, Err, Some, None}
use Rattle.std.proofs.lemmas.Result.{err_from_is_err_and}
use Rattle.meaning.specs.Blocks.{kind_number}
use Rattle.refusals.specs.declared.Refusal.{Refusal}
use Rattle.refusals.specs.declared.Refusal.TheVariants as refusal
use Rattle.blocks.specs.Meant.{time_is}
use Rattle.blocks.specs.Cards.{block_of}
use Rattle.summary.specs.Summary.{summary_within, over-told, within_told}
use Rattle.stack.specs.declared.Stack.{Stack}
use Rattle.making.specs.Made.{made_by, made_held}
use Rattle.closing.specs.ClosedBlock.{closes_by_shape, made_last, made_deep, closes_by_rise, closes_by_flow, closes_held}
use Rattle.closing.proofs.hold_block.Goals as goal

pub returns-in_err-shape : goal.returns-in_err-shape
returns-in_err-shape c = λ name.
    let x = c.args in
    let p = err_from_is_err_and c.from_residual.result c.from_residual.ensures.1 in
    rw (p.1, p.2) (closes_by_shape (time_is x.time) (block_of name x.cards.now) x.held x.work.now _ (c.in_err-shape.ensures name).number)

pub make-requires : goal.make-requires
make-requires c =
    let shape = c.in_ok-shape.ensures in
    record { held_within = c.requires.held_within; read = c.requires.read; by_index = λ name. record { is = sym (shape name).kind; sound = sym (shape name).number } }

-- what is not held met 20, as a pool rose above its last row
risen_of : {r : Result Stack Refusal} (rose : Bool) (next : Stack) → r ≡ made_by rose next → ((h : Stack) → r ≡ Ok h → ⊥) → (r ≡ Err refusal.Overtopped) × (rose ≡ true)
risen_of true next met held = (met, refl)
risen_of false next met held = absurd (held next met)

pub returns-in_err-next : goal.returns-in_err-next
returns-in_err-next c = λ name.
    let x = c.args in
    let p = err_from_is_err_and c.from_residual-in_err-next.result c.from_residual-in_err-next.ensures.1 in
    let made = c.make.ensures name in
    let risen = risen_of _ made.next made.answer (λ h held. grind (arith, held)) in
    let twenty : c.in_err-next.field-0.0 ≡ refusal.Overtopped = grind (arith, risen.0) in
    rw (p.1, p.2, twenty) (closes_by_rise (time_is x.time) (block_of name x.cards.now) x.held x.work.now (sym (c.in_ok-shape.ensures name).number) _ _ made.makes risen.1)

pub summarize_last-within-requires : goal.summarize_last-within-requires
summarize_last-within-requires c =
    let x = c.args in
    let τ = time_is x.time in
    let b = block_of [] x.cards.now in
    let sound = sym (c.in_ok-shape.ensures []).number in
    let made = made_held (c.in_ok-next.ensures []) in
    let fits = c.requires.held_within.fits in
    let long : length c.make.new.work ≡ length x.work.now = c.make.auto.work in
    ((made_last τ b x.held x.work.now sound _ _ made.0).some, record { deep = made_deep τ b x.held x.work.now sound _ _ made.0; ordinates = fits.ordinates; enough = omega (arith, fits.enough, long) })

pub returns-in_err-summary : goal.returns-in_err-summary
returns-in_err-summary c = λ name.
    let x = c.args in
    let τ = time_is x.time in
    let b = block_of name x.cards.now in
    let p = err_from_is_err_and c.from_residual-in_err-summary.result c.from_residual-in_err-summary.ensures.1 in
    let sound = sym (c.in_ok-shape.ensures name).number in
    let made = made_held (c.in_ok-next.ensures name) in
    let last = made_last τ b x.held x.work.now sound _ _ made.0 in
    let none : c.summarize_last-within.result ≡ None = grind arith in
    let thirteen : c.in_err-summary.field-0.0 ≡ refusal.FlowAboveLimit = grind arith in
    let high = over-told _ (sym none ∙ c.summarize_last-within.ensures ∙ ap summary_within last.flow) in
    rw (p.1, p.2, thirteen) (closes_by_flow τ b x.held x.work.now sound _ _ made.0 made.1 high)

pub last_area-requires : goal.last_area-requires
last_area-requires c =
    let x = c.args in
    let τ = time_is x.time in
    let b = block_of [] x.cards.now in
    let sound = sym (c.in_ok-shape.ensures []).number in
    let made = made_held (c.in_ok-next.ensures []) in
    ((made_last τ b x.held x.work.now sound _ _ made.0).some, made_deep τ b x.held x.work.now sound _ _ made.0)

pub returns : goal.returns
returns c = λ name.
    let x = c.args in
    let τ = time_is x.time in
    let b = block_of name x.cards.now in
    let shape = c.in_ok-shape.ensures name in
    let sound = sym shape.number in
    let made = made_held (c.in_ok-next.ensures name) in
    let last = made_last τ b x.held x.work.now sound _ _ made.0 in
    let some : c.summarize_last-within.result ≡ Some c.in_ok-summary.summary = grind arith in
    let told = within_told _ (sym some ∙ c.summarize_last-within.ensures ∙ ap summary_within last.flow) in
    closes_held τ b x.held x.work.now sound _ _ made.0 made.1 c.requires.read.cards c.requires.held_within.flows (c.number_of.ensures ∙ ap kind_number shape.kind)
    (c.last_area.ensures ∙ last.area) told.1 told.0
