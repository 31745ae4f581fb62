-- The word and three numbers, each written where the one before it ends. A number behind its blank has 21 bytes at most.
use Prim.Native.Nat.{◌+◌, ◌≤◌}
use native.Mathlib.Omega.{arith}
use borrow.Author.Rules.{rules}
use lib.ListN.{length}
use Rattle.text.specs.Digits.{whole_within}
use Rattle.text.specs.Written.{written_more}
use Rattle.reasons.proofs.write_rule.Statement.{statement}
use Rattle.reasons.proofs.write_rule.Tie as tie

-- THE POINTS: what was lent, the word, the numbers
abbrev entry : tie.After-write_text-second → tie.Start
entry c = c.before.before.before.before

abbrev word : tie.After-write_number-third → tie.After-write_text-second
word c = c.before.before.before.before

abbrev first : tie.After-write_number-fourth → tie.After-write_number-third
first c = c.before.before.before.before

abbrev second : tie.After-write_number → tie.After-write_number-fourth
second c = c.before.before.before.before

-- the place behind each
behind-word : (c : tie.After-write_text-second) → c.write_text-second.result ≤ (entry c).args.at + length (entry c).args.word.now
behind-word c = omega (arith, c.write_text-second.ensures.place)

behind-first : (c : tie.After-write_number-third) → let x = (entry (word c)).args in c.write_number-third.result ≤ x.at + length x.word.now + 21
behind-first c = omega (arith, c.write_number-third.ensures.place, behind-word (word c), whole_within (entry (word c)).args.most)

behind-second : (c : tie.After-write_number-fourth) → let x = (entry (word (first c))).args in c.write_number-fourth.result ≤ x.at + length x.word.now + 42
behind-second c =
    let x = (entry (word (first c))).args in
    omega (arith, c.write_number-fourth.ensures.place, behind-first (first c), whole_within x.low, whole_within x.high)

write-number-requires : tie.Need-write_number-third-requires
write-number-requires c κs = let w = c.before.before.before in omega (arith, behind-word w, whole_within (entry w).args.most, (entry w).requires)

write-number-requires-2 : tie.Need-write_number-fourth-requires
write-number-requires-2 c κs = let n = c.before.before.before in let x = entry (word n) in omega (arith, behind-first n, whole_within x.args.low, whole_within x.args.high, x.requires)

write-number-requires-3 : tie.Need-write_number-requires
write-number-requires-3 c κs = let n = c.before.before.before in let x = entry (word (first n)) in omega (arith, behind-second n, whole_within x.args.low, whole_within x.args.high, x.requires)

returns : tie.Need-returns
returns c =
    let third = c.before.before in
    let second = second third in
    let first = first second in
    let word = word first in
    let room = (entry word).requires in
    written_more (omega (arith, behind-second second, room))
    (written_more (omega (arith, behind-first first, room))
    (written_more (omega (arith, behind-word word, room)) word.write_text-second.ensures first.write_number-third.ensures)
    second.write_number-fourth.ensures)
    third.write_number.ensures

pub write_rule_spec : {M : Type 1} → statement M
write_rule_spec =
    tie.close (tie.spec (λ c κs. search rules) write-number-requires write-number-requires-2 write-number-requires-3 (λ c. search rules) returns)
