-- The word, the number and the line's end, one behind another.
use native.Mathlib.Omega.{arith}
use Rattle.text.specs.Line.{length-told}
use Rattle.text.specs.Written.{written_more}
use borrow.Author.Rules.{rules}
use Rattle.text.proofs.write_told.Goals as goal

pub write_text-number-requires : goal.write_text-number-requires
write_text-number-requires c =
    let x = c.args in
    omega (arith, length-told x.word.now x.x)

pub write_whole-end-requires : goal.write_whole-end-requires
write_whole-end-requires c =
    let x = c.args in
    omega (arith, length-told x.word.now x.x)

pub write_byte-requires : goal.write_byte-requires
write_byte-requires c =
    let x = c.args in
    omega (arith, length-told x.word.now x.x)

pub returns : goal.returns
returns c =
    let end = c in
    let number = end in
    let word = number in
    let x = word.args in
    let room = length-told x.word.now x.x in
    written_more (omega arith) (written_more (omega arith) word.write_text-number.ensures number.write_whole-end.ensures) end.write_byte.ensures
