-- The copy fills all of the room.
use Rattle.forms.specs.Forms.{old-put}
use Rattle.forms.proofs.put_old.Goals as goal

pub returns : goal.returns
returns c =
    let start = c in
    old-put start.args.from.now start.args.to.now c.copy_old.new.to start.requires.0 c.copy_old.ensures
