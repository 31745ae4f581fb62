-- What was written lies within the slice.
use Rattle.text.specs.Counted.{written_counted}
use borrow.Author.Rules.{rules}
use Rattle.store.proofs.tell_refusal.Goals as goal

pub slice_bounds-out-end : goal.slice_bounds-out-end
slice_bounds-out-end c = (written_counted c.write_refusal-n.ensures).within

pub slice_bounds-say-end : goal.slice_bounds-say-end
slice_bounds-say-end c = (written_counted c.write_refusal-n.ensures).front
