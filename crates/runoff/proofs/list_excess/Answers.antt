-- `runoff::list_excess` meets its contract: the excess is made, and then taken out.
use mathlib.Core.Path.{sym, ap, ◌∙◌}
use Prim.Native.Nat.{ℕ}
use lib.ListN.{length, replicate}
use Rattle.runoff.specs.Listed.{length-listed, listed_up}
use Rattle.runoff.proofs.list_excess.Goals as goal

pub take_out-requires : goal.take_out-requires
take_out-requires c =
    let s = c in
    let rains = s.args.rains.now in
    let n = length s.args.q.now in
    let excess = c.storm_excess in record { excess_len = s.requires.words_len.0 ∙ sym (length-listed rains excess.new.excess s.args.storm n excess.ensures); all_up_to = listed_up rains excess.new.excess s.args.storm n excess.ensures s.requires.all_up_to.1 s.requires.words_len.2 s.requires.all_up_to.0 }

pub returns : goal.returns
returns c =
    let s = c in
    let excess = c.storm_excess in
    let taken = c.take_out.ensures in
    let long = length-listed s.args.rains.now excess.new.excess s.args.storm (length s.args.q.now) excess.ensures in
    (taken.0 ∙ excess.ensures, taken.1 ∙ ap (λ (n : ℕ). replicate n 0) long)
