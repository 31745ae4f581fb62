-- What is printed of a run with room enough is the deck's listing.
--     lent_room           the room: neither 1 nor 17 can be met
--     Prints             an outcome whose text this is, under these ratios, of no more records than are lent for
--     run_prints         the outcome of a deck prints its listing
--     accepted_prints    and so do the records of an accepted run, which are few
--     refused_prints     and so does the line of a refusal
use Rattle.std.specs.Prelude.{ℕ, zero, suc, ◌+◌, ◌-◌, ◌*◌, ◌≤◌, ◌≡◌, refl, Err, Bool, true, false, List, [], ◌∷◌, length, get_or, replicate}
use Rattle.std.proofs.Math.Nat.{mul-le-mul_left}
use Rattle.std.proofs.Common.{arith}
use borrow.Author.Tests.{le-ltb}
use Rattle.meaning.specs.Words.{◌<?◌, when◌then◌else◌}
use Rattle.meaning.specs.Blocks.{Time, or_whole}
use Rattle.meaning.specs.Results.{Result}
use Rattle.meaning.specs.Run.{Worked, Stopped, Done, worked, block_count, record_bytes, Lent, Answer, Accepted, Refused, Outcome, refused, no_room, settled, outcome, work_size, deck_size, most_blocks}
use Rattle.meaning.specs.Listing.{refused_line, listing_by, listing}
use Rattle.meaning.specs.Records.{most_ordinates}
use Rattle.sequences.specs.Bounds.{AllUpTo}
use Rattle.refusals.specs.declared.Refused as refusals
use Rattle.answers.specs.Answers as engine
use Rattle.answers.specs.Answers.{accepted_as, outcome_is}
use Rattle.engine.specs.Outcomes.{listed_in, listed_of, listed_sized}
use Rattle.text.specs.Written.{Written}
use Rattle.figures.specs.Line.{line_size}
use Rattle.printing.specs.Sizes.{most_ratio, ratio_size, Roomy}
use Rattle.printing.specs.Lines.{listing_of}
use Rattle.printing.specs.Listed.{listing-of}
use Rattle.listing.specs.Sizes.{most_ratios, records_size, listing_size}
use Rattle.listing.specs.Fitting.{Fitting, done_fits}

abbrev pub lent_room : Lent
lent_room = record { work = work_size; ordinates = most_ordinates; records = records_size }

abbrev pub printed_of : (ratios : List ℕ) → Answer → List ℕ → List ℕ
printed_of ratios (Accepted nq blocks count) records = listing_of ratios blocks records
printed_of ratios (Refused number line) records = refused_line number line

-- no more blocks and ratios than records are lent for, and no ratio that has no room in its line
pub record Few (ratios : List ℕ) (blocks : ℕ) : Type 0 where
  pub blocks-few : blocks ≤ most_blocks
  pub ratios-few : length (or_whole ratios) ≤ most_ratios
  pub small : AllUpTo most_ratio ratios

abbrev pub FewOf : (ratios : List ℕ) → Answer → Type 0
FewOf ratios (Accepted nq blocks count) = Few ratios blocks
FewOf ratios (Refused number line) = Unit {0}

pub record Prints (text ratios : List ℕ) (o : Outcome) : Type 0 where
  pub same : printed_of ratios o.answer o.records ≡ text
  pub few : FewOf ratios o.answer

-- so they have room
module _ (ratios : List ℕ) (blocks : ℕ) (few : Few ratios blocks) where
  abbrev count : ℕ
  count = length (or_whole ratios)

  pub few_roomy : (records out : ℕ) → records_size ≤ records → listing_size ≤ out → Roomy ratios blocks records out
  few_roomy records out all room =
      let lots = mul-le-mul_left blocks few.ratios-few in
      let lines = mul-le-mul_left (ratio_size + line_size * blocks) few.ratios-few in
      record { small = few.small; all = omega (arith, few.blocks-few); room = omega (arith, few.blocks-few) }

module _ (τ : Time) (rss : List (List Result)) (f : Fitting τ rss) where
  few_whole : (rs : List ℕ) → length rs ≤ most_ratios → length (or_whole rs) ≤ most_ratios
  few_whole [] h = omega arith
  few_whole (r ∷ rs) h = h

  small_at : (rs : List ℕ) → ((k : ℕ) → get_or rs k 100 ≤ most_ratio) → AllUpTo most_ratio rs
  small_at [] h k = omega arith
  small_at (r ∷ rs) h zero = h 0
  small_at (r ∷ rs) h (suc k) = small_at rs (λ (j : ℕ). h (suc j)) k

  pub fitting_few : Few τ.listed (block_count rss)
  fitting_few = record { blocks-few = f.few; ratios-few = few_whole τ.listed f.time.few-ratios; small = small_at τ.listed f.time.small-ratios }

  enough : no_room 0 0 τ.ordinates (block_count rss) (length rss) lent_room ≡ false
  unfolding no_room
  enough =
      let few = fitting_few in
      let lots = mul-le-mul_left (block_count rss) few.ratios-few in
      rw (
        le-ltb most_ordinates τ.ordinates f.time.few_ordinates,
        le-ltb records_size (record_bytes (block_count rss) (length rss)) (rw f.ratios (omega (arith, f.few))),
        le-ltb (block_count rss) 0 (omega arith),
        le-ltb (length rss) 0 (omega arith),
      )

settled_prints : (deck : List ℕ) (w : Worked) → worked deck ≡ w → Prints (listing_by w) (listed_in w) (settled 0 0 lent_room w)
unfolding when◌then◌else◌
settled_prints deck (Stopped number line) e = record { same = refl; few = tt }
settled_prints deck (Done τ rss) e =
    let f = done_fits deck e in
    let zeros : List ℕ = replicate (records_size - record_bytes (block_count rss) (length rss)) 0 in
    rw (enough τ rss f) (record { same = listing-of τ rss zeros f.ratios f.lots; few = fitting_few τ rss f })

-- a deck that is too long is refused before its ratios are read
by_length : (deck : List ℕ) (long : Bool) (ratios : List ℕ) → (long ≡ false → listed_in (worked deck) ≡ ratios)
    → Prints (when long then refused_line 2 0 else listing_by (worked deck)) ratios (when long then refused 2 0 lent_room else settled 0 0 lent_room (worked deck))
unfolding when◌then◌else◌
by_length deck true ratios listed = record { same = refl; few = tt }
by_length deck false ratios listed = rw (← listed refl) (settled_prints deck (worked deck) refl)

pub run_prints : (deck : List ℕ) → Prints (listing deck) (listed_of deck work_size) (outcome deck 0 0 lent_room)
unfolding outcome listing when◌then◌else◌
run_prints deck = by_length deck (deck_size <? length deck) (listed_of deck work_size) (λ e. listed_sized deck work_size (rw e))

-- by the answer of the engine
module _ (deck : List ℕ) (a : engine.Answer) {work ordinates records : List ℕ} {w q r : ℕ}
    (e : outcome_is a work ordinates records ≡ outcome deck 0 0 (record { work = w; ordinates = q; records = r }))
    (words : w ≡ work_size) (flows : q ≡ most_ordinates) (bytes : r ≡ records_size) where
  prints : Prints (listing deck) (listed_of deck work_size) (outcome_is a work ordinates records)
  prints = rw (e, words, flows, bytes) (run_prints deck)

  module _ {nq blocks count : ℕ} (told : a ≡ accepted_as nq blocks count) where
    accepted : Prints (listing deck) (listed_of deck work_size) (outcome_is (accepted_as nq blocks count) work ordinates records)
    accepted = rw told at prints

    pub accepted_few : {ratios : List ℕ} {n : ℕ} → n ≡ blocks → ratios ≡ listed_of deck w → Few ratios n
    accepted_few same_blocks listed = rw (same_blocks, listed, words) accepted.few

    pub accepted_prints : {ratios out next : List ℕ} {n behind : ℕ} → Written out 0 (listing_of ratios n records) next behind → n ≡ blocks → ratios ≡ listed_of deck w
        → Written out 0 (listing deck) next behind
    accepted_prints text same_blocks listed = rw (same_blocks, listed, words, accepted.same) at text

  pub refused_prints : {why : refusals.Refused} {n l behind : ℕ} {out next : List ℕ} → a ≡ Err why → Written out 0 (refused_line n l) next behind → n ≡ why.number → l ≡ why.line
      → Written out 0 (listing deck) next behind
  refused_prints {why} told text same_number same_line =
      let p : Prints (listing deck) (listed_of deck work_size) (outcome_is (Err why) work ordinates records) = rw told at prints in
      rw (same_number, same_line, p.same) at text
