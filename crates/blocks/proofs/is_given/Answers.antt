-- A record is there where its head is not 0.
use native.Mathlib.Omega.{arith}
use Rattle.blocks.specs.Taking.{region_fits}
use Rattle.blocks.specs.Values.{given_at}
use borrow.Author.Rules.{rules}
use Rattle.blocks.proofs.is_given.Goals as goal

pub offset_bounds-cards-at : goal.offset_bounds-cards-at
offset_bounds-cards-at c = let s = c in omega (arith, region_fits s.args.item s.args.cards.now (search rules) s.requires.1.long, c.start_of-at.ensures)

pub bounds-cards-at : goal.bounds-cards-at
bounds-cards-at c = let s = c in omega (arith, region_fits s.args.item s.args.cards.now (search rules) s.requires.1.long, c.start_of-at.ensures)

pub returns : goal.returns
returns c = let s = c in λ name. rw c.start_of-at.ensures (given_at s.args.item s.args.cards.now (search rules) s.requires.1.long name)
