-- The higher digit, and the lower one behind it.
use native.Mathlib.Omega.{arith}
use Rattle.text.specs.Written.{written_more}
use Rattle.hexes.proofs.write_hex.Goals as goal

pub returns : goal.returns
returns c =
    let low = c in
    let high = low in
    rw (← high.hex_digit.ensures, ← low.hex_digit-2.ensures)
    (written_more (omega arith) low.write_byte-low.ensures c.write_byte.ensures)
