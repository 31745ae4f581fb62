-- What is left has the same bytes without its last ones as the whole.
use mathlib.Core.Path.{refl, ap, sym, ◌∙◌}
use native.Mathlib.Omega.{arith}
use Rattle.meaning.specs.Fields.{trim_end}
use Rattle.slices.specs.Bytes.{is_byte}
use Rattle.slices.specs.Trimmed.{trim_more, trim_kept}
use Rattle.slices.proofs.trim_end.Goals as goal

pub loop-front-init : goal.loop-front-init
loop-front-init c = refl

pub loop-front-preserved : goal.loop-front-preserved
loop-front-preserved c =
    let a = c.args in
    let left = c.loop-front.left.now in
    let found = c.in-Some.ensures.cases in
    ap (trim_end (is_byte a.byte)) found.1 ∙ trim_more a.byte left found.0 (omega (arith, found.2)) ∙ c.loop-front.invariant

pub returns : goal.returns
returns c = sym (trim_kept c.args.byte c.loop-front.left.now c.in_default.ensures.cases) ∙ c.loop-front.invariant
