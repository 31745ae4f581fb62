-- No ratio, a 0 among them, or all of them copied behind the time control's minutes and ordinates.
use Rattle.std.specs.Prelude.{ℕ, List}
use Rattle.std.proofs.Common.{refl, sym, ap, ◌∙◌}
use Rattle.blocks.specs.Meant.{time_is}
use Rattle.taking.specs.Ratios.{none_there, some_there}
use Rattle.taking.specs.Taken.{with_listed, timed_with}
use Rattle.taking.proofs.take_ratios.Goals as goal

pub returns-then-count-lt2 : goal.returns-then-count-lt2
returns-then-count-lt2 c = (none_there c.args.count c.args.values.now c.if-count-lt2.true, refl)

pub returns-then-contains : goal.returns-then-contains
returns-then-contains c =
    let x = c.args in
    let e = c.contains.ensures.value in
    (some_there x.count x.values.now c.if-count-lt2.false ∙ sym e ∙ c.if-contains.true, refl)

pub returns : goal.returns
returns c =
    let x = c.args in
    let e = c.contains.ensures.value in
    let copied = c.copy_ratios.ensures in (
      some_there x.count x.values.now c.if-count-lt2.false ∙ sym e ∙ c.if-contains.false,
      timed_with _ _ c.with_time.ensures (ap (λ (l : List ℕ). with_listed l (time_is x.r.time)) copied.0) copied.1,
    )
