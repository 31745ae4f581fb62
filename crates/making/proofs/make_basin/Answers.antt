-- `making::make_basin` meets its contract: the runoff of the block's own storm is held, by what `hold_basin` promises.
use mathlib.Core.Path.{◌≡◌, refl, sym, ◌∙◌}
use mathlib.Core.List.{[]}
use native.Mathlib.Omega.{arith}
use Rattle.meaning.specs.Records.{UI}
use Rattle.meaning.specs.Blocks.{Basin}
use Rattle.blocks.specs.Meant.{time_is}
use Rattle.blocks.specs.Cards.{block_of}
use Rattle.blocks.specs.Values.{values_few}
use Rattle.runoff.specs.Storm.{storm_runoff}
use Rattle.stack.specs.View.{view}
use Rattle.stack.specs.Kinds.{block_runoff, after-basin}
use Rattle.making.specs.Made.{makes_by}
use Rattle.making.specs.Kinds.{storm-read, room_for_one}
use Rattle.making.proofs.make_basin.Goals as goal

pub hold_basin-requires : goal.hold_basin-requires
hold_basin-requires c =
    let s = c in
    let x = s.args in
    let read = s.requires.read in
    let b = block_of [] x.cards.now in
    let storm = storm-read (time_is x.time) b read.time read.cards (values_few UI [] x.cards.now (omega arith) read.words.long) in record { fits = room_for_one {k = Basin} (time_is x.time) b _ _ refl (s.requires.by_index []) s.requires.held_within.fits; storm_within = rw (c.values-units.ensures [], c.values-rains.ensures [], c.storm_of-storm.ensures []) storm }

pub returns : goal.returns
returns c = λ name.
    let s = c in
    let x = s.args in
    let τ = time_is x.time in
    let b = block_of name x.cards.now in
    let e = (s.requires.by_index name).is in
    let h = c.hold_basin.ensures in
    let q = c in
    let runoff : storm_runoff q.values-units.result.now q.values-rains.result.now q.storm_of-storm.result x.time.ordinates ≡ block_runoff τ b =
    rw (q.values-units.ensures name, q.values-rains.ensures name, q.storm_of-storm.ensures name) in
    let area = q.area_of-area.ensures name in
    makes_by τ b x.held x.work.now e (h.value ∙ rw area) (h.words ∙ rw runoff) (h.held ∙ rw (area, runoff) (sym (after-basin τ b (view x.held x.time.ordinates x.work.now) e)))
