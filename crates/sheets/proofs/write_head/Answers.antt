-- After i turns the numbers of the first i ordinates are written, each within its cell.
use Rattle.std.proofs.Common.{ℕ, ◌+◌, ◌≡◌, ◌∙◌, arith}
use Rattle.meaning.specs.Listing.{whole}
use Rattle.meaning.specs.Sheet.{head_line}
use Rattle.text.specs.Written.{written_more}
use Rattle.sheets.specs.Lines.{cells_more}
use Rattle.sheets.specs.Room.{numbers_short}
use Rattle.sheets.proofs.write_head.Goals as goal

pub write_count-at-requires : goal.write_count-at-requires
write_count-at-requires c = omega (arith, c.loop-i.invariant.1.place, numbers_short c.loop-i.i, c.write_text-at.ensures.place)

pub loop-i-preserved : goal.loop-i-preserved
loop-i-preserved c =
    let l = c.loop-i in
    let written = c.write_count-at in (
      written.auto.out ∙ l.invariant.0,
      rw (cells_more (λ (i : ℕ). whole (i + 1)) l.i)
          (written_more (omega (arith, l.invariant.1.place, numbers_short l.i, c.write_text-at.ensures.place)) l.invariant.1 written.ensures),
    )

pub write_byte-requires : goal.write_byte-requires
write_byte-requires c = omega (arith, c.loop-i.invariant.1.place, numbers_short c.loop-i.i, c.write_text-at.ensures.place)

pub returns : goal.returns
unfolding head_line
returns c =
    let l = c.loop-i in
    let all : l.i ≡ c.args.n = omega arith in
    let reached = numbers_short l.i in
    written_more (omega (arith, l.invariant.1.place, reached, c.write_text-at.ensures.place))
    (written_more (omega arith) c.write_text-at.ensures (rw all at l.invariant.1)) c.write_byte.ensures
