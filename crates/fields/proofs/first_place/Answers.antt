-- One answer for each form.
use mathlib.Core.Path.{◌≡◌, ◌∙◌}
use Rattle.fields.specs.Spans.{blanks_end}
use Rattle.fields.specs.Forms.{first_in_free, first_in_fixed}
use Rattle.fields.proofs.first_place.Goals as goal

pub returns-then-free : goal.returns-then-free
returns-then-free c =
    let a = c.args in
    let place : c.past_blanks.result ≡ blanks_end a.l.now 2 = c.past_blanks.ensures in
    place ∙ first_in_free a.free a.l.now c.if-free.true

pub returns : goal.returns
returns c = first_in_fixed c.args.free c.args.l.now c.if-free.false
