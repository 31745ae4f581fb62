-- Where the block is closed, what is held then fits the work words, which keep their length.
use Rattle.std.proofs.Common.{[], arith}
use Rattle.walking.proofs.finish_block.Goals as goal

pub write_result-requires-clause-le_depth : goal.write_result-requires-clause-le_depth
write_result-requires-clause-le_depth c =
    let fits = c.requires.held.fits in
    let keeps = rw c.in_ok-closed.was at (c.close_block.ensures []).keeps in
    (keeps.some, record { deep = keeps.deep; ordinates = fits.ordinates; enough = omega (arith, c.close_block.auto.work, fits.enough) })
