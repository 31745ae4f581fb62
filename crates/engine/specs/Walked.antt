-- The outcome of a run, from the rounds over the deck.
--     refused_as, settled-as      the outcome where the deck is refused and where it is sound; listed_as: its ratios there
--     work_enough                 the sizes that are not refused are room enough to walk the deck
use Rattle.std.specs.Prelude.{ℕ, ◌≤◌, ◌≡◌, refl, Bool, ◌||◌, List, length, replicate}
use Rattle.std.proofs.Common.{sym, ◌∙◌, ltb-false}
use Rattle.std.proofs.Math.Bool.{true, false}
use Rattle.sequences.specs.Choices.{both_fail}
use Rattle.sequences.specs.Refusals.{neither_met, not_met}
use Rattle.meaning.specs.Blocks.{or_whole}
use Rattle.meaning.specs.Words.{◌<?◌, when◌then◌else◌, met}
use Rattle.meaning.specs.Run.{Outcome, Lent, refused, block_count, record_bytes, accepted, no_room, outcome, work_size, deck_size}
use Rattle.answers.specs.Answers.{accepted_as, outcome_is, lent_as, lacking, size_refusal, settled_as}
use Rattle.passes.specs.Loop.{loop_ends}
use Rattle.answers.specs.declared.Wanted.{Wanted}
use Rattle.rounds.specs.Every.{EveryDone}
use Rattle.engine.specs.Outcomes.{settles, listed_of, listed_sized}

pub work_enough : (work deck : ℕ) → size_refusal work deck ≡ 0 → work_size ≤ work
work_enough work deck h = ltb-false work work_size (not_met (work <? work_size) 0 (neither_met (met (work <? work_size) 1) (met (deck_size <? deck) 2) h).0)

enough_room : (nq blocks ratios named ratio ordinates records : ℕ) → lacking nq blocks ratios named ratio ordinates records ≡ false
    → (nq ≤ ordinates) × (record_bytes blocks ratios ≤ records) × (named ≤ blocks) × (ratio ≤ ratios)
enough_room nq blocks ratios named ratio ordinates records h =
    let a = both_fail ((ordinates <? nq) || (records <? record_bytes blocks ratios) || (blocks <? named)) (ratios <? ratio) h in
    let b = both_fail ((ordinates <? nq) || (records <? record_bytes blocks ratios)) (blocks <? named) a.0 in
    let c = both_fail (ordinates <? nq) (records <? record_bytes blocks ratios) b.0 in
    (ltb-false ordinates nq c.0, ltb-false records (record_bytes blocks ratios) c.1, ltb-false blocks named b.1, ltb-false ratios ratio a.1)

module _ (deck : List ℕ) (named ratio : ℕ) (work ordinates records work' ordinates' records' : List ℕ)
    (lw : length work' ≡ length work) (lo : length ordinates' ≡ length ordinates) (lr : length records' ≡ length records) where
  abbrev wanted : Wanted
  wanted = record { block = named; ratio = ratio }

  abbrev lent : Lent
  lent = lent_as work ordinates records

  pub refused_as : (o : Outcome) (number line : ℕ) → o ≡ refused number line (lent_as work' ordinates' records')
      → refused number line lent ≡ outcome deck named ratio lent → o ≡ outcome deck named ratio lent
  refused_as o number line e f = e ∙ rw (lw, lo, lr) f

  module _ (listed : List ℕ) (nq blocks : ℕ) (sized : size_refusal (length work) (length deck) ≡ 0)
      (d : EveryDone deck wanted (length ordinates) (length records) listed nq blocks ordinates' records') where
    abbrev ratios : ℕ
    ratios = length (or_whole listed)

    room_is : no_room named ratio d.time.ordinates (block_count d.results) (length d.results) lent ≡ lacking nq blocks ratios named ratio (length ordinates') (length records')
    unfolding no_room
    room_is = rw (lo, lr, d.ordinates-are, d.blocks-are, d.holds.ratios)

    -- with room for them the results stand as the definition has them
    as_they_stand : lacking nq blocks ratios named ratio (length ordinates') (length records') ≡ false
        → outcome_is (accepted_as nq blocks ratios) (replicate (length work') 0) ordinates' records' ≡ accepted named ratio d.time d.results lent
    as_they_stand h =
        let room = enough_room nq blocks ratios named ratio (length ordinates) (length records) (rw (lo, lr) at h) in
        let few : named ≤ block_count d.results = rw d.blocks-are room.2 in
        let flows : d.time.ordinates ≤ length ordinates = rw d.ordinates-are room.0 in
        let bytes : record_bytes (block_count d.results) ratios ≤ length records = rw d.blocks-are room.1 in
        sym (loop_ends deck named ratio (length ordinates) (length records) lent ratios d.time d.results ordinates' records' refl refl d.holds few flows room.3 bytes
        ∙ rw (d.ordinates-are, d.blocks-are, lw))

    by_room : (t : Bool) → lacking nq blocks ratios named ratio (length ordinates') (length records') ≡ t
        → (when t then refused 17 0 (lent_as work' ordinates' records') else outcome_is (accepted_as nq blocks ratios) (replicate (length work') 0) ordinates' records')
        ≡ (when t then refused 17 0 lent else accepted named ratio d.time d.results lent)
    unfolding when◌then◌else◌
    by_room true h = rw (lw, lo, lr)
    by_room false h = as_they_stand h

    pub settled-as : settled_as nq blocks ratios named ratio work' ordinates' records' ≡ outcome deck named ratio lent
    settled-as =
        let means = rw (d.done, room_is) at (settles deck named ratio lent sized) in
        by_room (lacking nq blocks ratios named ratio (length ordinates') (length records')) refl ∙ means

    pub listed_as : listed ≡ listed_of deck (length work)
    listed_as = sym d.listed-are ∙ rw d.done at (listed_sized deck (length work) sized)
