-- One name or the other.
use Rattle.sheets.proofs.write_measure.Goals as goal

pub returns-in-Units : goal.returns-in-Units
returns-in-Units c = rw c.in-Units.is c.write_text.ensures

pub returns-in-Customary : goal.returns-in-Customary
returns-in-Customary c = rw c.in-Customary.is c.write_text-in-Customary.ensures
