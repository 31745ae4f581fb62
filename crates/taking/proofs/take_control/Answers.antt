-- Each way of the line is one law: outside its limits, the time control, the ratios. In a block no such line is due.
use Rattle.std.specs.Prelude.{[]}
use Rattle.scanning.specs.Scans.{scanned_of}
use Rattle.taking.specs.Taken.{control_outside, time_few, time-line, ratio-line}
use Rattle.taking.proofs.take_control.Goals as goal

pub returns-then-scan : goal.returns-then-scan
returns-then-scan c = λ w ready. let x = c.args in control_outside x.r x.item (scanned_of x.values.now x.scan) w c.requires.0 c.if-scan.true

pub take_time-requires : goal.take_time-requires
take_time-requires c =
    let x = c.args in
    let due = rw c.in-BeforeTime.is at c.requires.0 in
    (c.requires.1.read.ten, time_few x.r x.item (scanned_of x.values.now x.scan) [] due c.requires.1 c.if-scan.false)

pub take_ratios-requires : goal.take_ratios-requires
take_ratios-requires c = let read = c.requires.1.read in (read.ten, read.few)

pub returns-in-BeforeTime : goal.returns-in-BeforeTime
returns-in-BeforeTime c = λ w ready.
    let x = c.args in
    let place = c.in-BeforeTime.is in
    time-line x.r x.item (scanned_of x.values.now x.scan) w c.if-scan.false ready place (rw place at c.requires.0) c.requires.1 c.take_time.result c.take_time.ensures

pub returns-in-BeforeBlocks : goal.returns-in-BeforeBlocks
returns-in-BeforeBlocks c = λ w ready.
    let x = c.args in
    let place = c.in-BeforeBlocks.is in
    ratio-line x.r x.item (scanned_of x.values.now x.scan) w c.if-scan.false ready place (rw place at c.requires.0) c.take_ratios.result c.take_ratios.ensures

pub unreachable-requires : goal.unreachable-requires
unreachable-requires c = absurd (rw c.in-InBlock.is at c.requires.0)
