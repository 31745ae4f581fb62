-- The old bytes are those that `put_old` leaves in their part, and the label's stand behind them.
use Prim.Native.Nat.{ℕ}
use mathlib.Core.List.{List}
use Rattle.meaning.specs.Results.{label_of}
use Rattle.results.specs.Record.{old_bytes, length-old, parts_put}
use Rattle.results.proofs.put_record.Goals as goal

pub returns : goal.returns
returns c =
    let label = c in
    let old = label in
    let s = old in
    let x = s.args in
    let bytes : List ℕ = old_bytes x.name.now x.kind x.area x.s.peak x.s.interval x.s.sum in
    let long = length-old x.name.now x.kind x.area x.s.peak x.s.interval x.s.sum s.requires.1 in
    rw (label.put_label.ensures, old.put_old.ensures) (parts_put 32 8 x.r.now bytes (label_of x.label.ratio x.label.place) s.requires.0 long)
