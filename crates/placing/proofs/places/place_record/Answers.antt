-- Each record is one law of where it stands.
use mathlib.Core.Path.{◌≡◌, refl}
use native.Mathlib.Omega.{arith}
use lib.ListN.{length}
use mathlib.Core.Bool.{true, false}
use borrow.Author.Rules.{rules}
use Rattle.meaning.specs.Blocks.{repeated}
use Rattle.blocks.specs.Meant.{time_is, name_is}
use Rattle.blocks.specs.Cards.{block_of}
use Rattle.placing.specs.Places.{listed_some, id_placed, it_placed, jr_placed, kk_placed, zz_placed, km_placed, control_placed, item_placed}
use Rattle.placing.proofs.places.place_record.Goals as goal

pub in_block-requires : goal.in_block-requires
in_block-requires c = (rw c.in-Of.is at c.requires.0, c.requires.1)

pub returns-in-Id : goal.returns-in-Id
returns-in-Id c =
    let x = c.args in
    rw (c.in-Id.is, c.before_time.ensures) (id_placed (time_is x.r.time) x.r.free (name_is x.r.name) x.cards.now x.r.phase)

pub returns-in-It : goal.returns-in-It
returns-in-It c =
    let x = c.args in
    rw (c.in-It.is, c.before_time-in-It.ensures) (it_placed (time_is x.r.time) x.r.free (name_is x.r.name) x.cards.now x.r.phase)

pub returns-in-Jr : goal.returns-in-Jr
returns-in-Jr c =
    let x = c.args in
    let nine : length x.r.time.ratios.values ≡ 9 = search rules in
    rw (c.in-Jr.is, c.before_blocks.ensures)
    (jr_placed (time_is x.r.time) x.r.free (name_is x.r.name) x.cards.now _ (listed_some x.r.time.ratios.count x.r.time.ratios.values (omega arith)) x.r.phase)

pub returns-in-Kk : goal.returns-in-Kk
returns-in-Kk c =
    let x = c.args in
    rw (c.in-Kk.is, c.after_time.ensures) (kk_placed (time_is x.r.time) x.r.free (name_is x.r.name) x.cards.now x.r.phase)

pub returns-in-Km : goal.returns-in-Km
returns-in-Km c = let x = c.args in rw c.in-Km.is (km_placed (time_is x.r.time) x.r.free (name_is x.r.name) x.cards.now x.r.phase)

pub returns-in-Zz : goal.returns-in-Zz
returns-in-Zz c =
    let x = c.args in
    rw (c.in-Zz.is, c.after_time-in-Zz.ensures) (zz_placed (time_is x.r.time) x.r.free (name_is x.r.name) x.cards.now x.r.phase)

pub returns-in-Free : goal.returns-in-Free
returns-in-Free c = let x = c.args in rw c.in-Free.is (control_placed (time_is x.r.time) x.r.free (name_is x.r.name) x.cards.now true x.r.phase)

pub returns-in-Fix : goal.returns-in-Fix
returns-in-Fix c = let x = c.args in rw c.in-Fix.is (control_placed (time_is x.r.time) x.r.free (name_is x.r.name) x.cards.now false x.r.phase)

pub returns-in-Of : goal.returns-in-Of
returns-in-Of c =
    let x = c.args in
    let item = c.in-Of.item in
    let inside = rw c.in-Of.is at c.requires.0 in
    rw (c.in-Of.is, c.in_block.ensures (name_is x.r.name))
    (item_placed (time_is x.r.time) x.r.free (name_is x.r.name) x.cards.now item (repeated item (block_of (name_is x.r.name) x.cards.now)) inside (λ name. refl) x.r.phase)
