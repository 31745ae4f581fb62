-- After some turns as many bytes are written, two digits each.
use mathlib.Core.Path.{◌∙◌}
use native.Mathlib.Omega.{arith}
use lib.Seq.{take_all}
use Rattle.text.specs.Written.{written_more}
use Rattle.hexes.specs.Hex.{hex_more}
use Rattle.hexes.proofs.write_bytes.Goals as goal

pub loop-byte-preserved : goal.loop-byte-preserved
loop-byte-preserved c =
    let l = c.loop-byte in
    let written = c.write_hex-at in (
      omega (arith, written.ensures.place),
      written.auto.out ∙ l.invariant.1,
      rw (hex_more l.byte-index c.args.bytes.now (omega arith)) (written_more (omega arith) l.invariant.2 written.ensures),
    )

pub returns : goal.returns
returns c =
    let l = c.loop-byte in
    let end = c.write_byte.ensures in
    let all = take_all l.byte-index c.args.bytes.now c.loop-byte-test.false in
    record { text = written_more (omega arith) (rw all at l.invariant.2) end; short = omega (arith, end.place) }
