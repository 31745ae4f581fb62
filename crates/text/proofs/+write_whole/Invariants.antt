-- The number itself falls, since each call has its tenth.
use Rattle.text.proofs.+write_whole.Given as goal

abbrev pub decreases-write_whole : goal.decreases-write_whole
decreases-write_whole l = l.x
