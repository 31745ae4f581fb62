-- The old bytes are copied, and ratio and place, then zeros, are what `put_le` leaves in the parts behind them.
use mathlib.Core.Path.{◌≡◌, ap, ◌∙◌}
use Prim.Native.Nat.{ℕ}
use mathlib.Core.List.{List}
use native.Mathlib.Omega.{arith}
use lib.ListN.{length}
use Rattle.meaning.specs.Results.{little_endian, record_size, old_record_size}
use Rattle.sequences.specs.Parts.{put, length_part, length-put}
use Rattle.forms.specs.Forms.{whole, new-put}
use Rattle.forms.proofs.put_new.Goals as goal

pub returns : goal.returns
returns c =
    let zeros = c in
    let said = zeros in
    let copied = said.copy_old in
    let start = said in
    let long : length copied.new.to ≡ record_size = copied.auto.to ∙ start.requires.0 in
    let behind : List ℕ = put old_record_size 4 copied.new.to said.put_le.new.s in
    let first : said.put_le.new.s ≡ little_endian 4 whole =
    said.put_le.ensures ∙ ap (λ (n : ℕ). little_endian n whole) (length_part old_record_size 4 copied.new.to (omega arith)) in
    let four : length said.put_le.new.s ≡ 4 = ap length first in
    let whole_long : length behind ≡ length copied.new.to = length-put old_record_size 4 copied.new.to said.put_le.new.s (omega arith) four in
    let second : zeros.put_le-2.new.s ≡ little_endian 4 0 =
    zeros.put_le-2.ensures ∙ ap (λ (n : ℕ). little_endian n 0) (length_part 36 4 behind (omega arith)) in
    new-put start.args.from.now start.args.to.now copied.new.to behind _ start.requires.0 start.requires.1 copied.ensures
    (ap (put old_record_size 4 copied.new.to) first) (ap (put 36 4 behind) second)
