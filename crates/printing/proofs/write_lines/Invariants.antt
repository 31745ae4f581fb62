-- After some turns the lines of as many records are written, and the records behind them are left.
use Rattle.std.proofs.Common.{◌≤◌, ◌≡◌, ◌*◌, length, take, drop}
use Rattle.meaning.specs.Results.{record_size}
use Rattle.text.specs.Written.{Written}
use Rattle.printing.specs.Lines.{lines_to}
use Rattle.printing.proofs.write_lines.Given as goal

abbrev pub invariant-loop-record : goal.invariant-loop-record
invariant-loop-record l =
    (length l.out ≡ length l.initial.out) × (length l.yielded ≤ l.fn.blocks)
    × Written l.initial.out l.start (lines_to (length l.yielded) l.fn.records) l.out l.at
    × (l.record-iterator.size ≡ record_size) × (l.record-iterator.rest.now ≡ drop (record_size * length l.yielded) (take (record_size * l.fn.blocks) l.fn.records))
