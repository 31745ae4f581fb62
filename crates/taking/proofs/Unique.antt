-- Two outcomes that meet a contract of this crate, as its `ensures` line has it, say the same of the line: its refusal, or where the reading stands then.
use Prim.Native.Nat.{ℕ}
use mathlib.Core.Path.{◌≡◌, sym, ◌∙◌}
use mathlib.Core.List.{List}
use Rattle.sequences.specs.OneOutcome.{OnceAt}
use Rattle.records.specs.Rows.{field_row}
use Rattle.scanning.specs.Scans.{scanned_of}
use Rattle.scanning.specs.WholeLine.{LineRead}
use Rattle.placing.specs.Readings.{Ready}
use Rattle.taking.specs.Taken.{stays, taken_event}
use Rattle.taking.proofs.take_control.Kinds as take-control
use Rattle.taking.proofs.take_control.Reads as take-control-says
use Rattle.taking.proofs.take_item.Kinds as take-item
use Rattle.taking.proofs.take_item.Reads as take-item-says

-- of every line whose fields were passed so
pub one_control : OnceAt take-control.ps take-control.r take-control-says.Post
    (λ κs a x y e f.
    (w : List ℕ) → Ready a.0 w → (fs : List (List ℕ)) → LineRead (field_row a.1.0) fs (scanned_of a.1.1.0.now a.1.1.1.0)
    → taken_event x w ≡ taken_event y w)
one_control κs a x y e f p q w ready fs read = (p w ready).event fs read ∙ sym ((q w ready).event fs read)

pub one_item : OnceAt take-item.ps take-item.r take-item-says.Post
    (λ κs a x y e f.
    (fs : List (List ℕ)) → LineRead (field_row a.1.0) fs (scanned_of a.1.1.0.now a.1.1.1.0)
    → taken_event (stays a.0 x) e.1.1.1.1.0.now ≡ taken_event (stays a.0 y) f.1.1.1.1.0.now)
one_item κs a x y e f p q fs read = p.event fs read ∙ sym (q.event fs read)
