-- The name without its blanks, and the figures behind it.
use mathlib.Core.Path.{ap}
use native.Mathlib.Omega.{arith}
use lib.ListN.{length}
use Rattle.text.specs.Written.{written_more}
use Rattle.figures.specs.Line.{figures_text, line_of, length-line}
use Rattle.figures.proofs.write_line.Goals as goal

pub write_text-next-requires : goal.write_text-next-requires
write_text-next-requires c = omega (arith, length-line c.args.from.now, ap length c.trim_blanks.ensures)

pub write_figures-requires : goal.write_figures-requires
write_figures-requires c =
    let name = ap length c.trim_blanks.ensures in
    let figures = ap (λ f. length (figures_text f)) c.read_figures.ensures in
    omega (arith, length-line c.args.from.now)

pub returns : goal.returns
unfolding line_of
returns c =
    let name = c.trim_blanks.ensures in
    let long = ap length name in
    let room = length-line c.args.from.now in
    written_more (omega arith) (rw name at c.write_text-next.ensures) (rw c.read_figures.ensures at c.write_figures.ensures)
