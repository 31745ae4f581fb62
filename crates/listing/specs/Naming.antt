-- What is shown of a named block under a named ratio, from the answer of a run that names them, with room enough for any deck.
--     number_within      a number that is named is one of those there are
--     Named              an accepted run: how its deck was worked, and that what it names is there; accepted-named
--     refused-shown      where the run is refused, so is what is shown
--     accepted-shown     where it is accepted, it is the text of the named ratio's time control and results
--     said               the same room, by the engine's answer
use Rattle.std.specs.Prelude.{ℕ, zero, suc, ◌≤◌, ◌<◌, Bool, ◌||◌, List, []}
use Rattle.std.proofs.Math.Path.{◌≡◌, refl, ap}
use Rattle.std.proofs.Common.{sym, ◌∙◌, arith}
use Rattle.std.proofs.Math.Bool.{true, false}
use Rattle.std.proofs.Math.Nat.{mul-le-mul}
use borrow.Author.Tests.{le-ltb, ltb-false, eqb-false}
use Rattle.std.proofs.Math.ListN.{length}
use Rattle.sequences.specs.Choices.{both_fail}
use Rattle.meaning.specs.Words.{◌=?◌, ◌<?◌, when◌then◌else◌}
use Rattle.meaning.specs.Blocks.{Time, ratio_at, under}
use Rattle.meaning.specs.Results.{Result}
use Rattle.meaning.specs.Records.{most_ordinates}
use Rattle.meaning.specs.Run.{Worked, Stopped, Done, worked, place_of, named_ratio, block_count, record_bytes, Lent, Answer, Accepted, Refused, Outcome, refused, accepted, no_room, settled, outcome, work_size, deck_size}
use Rattle.meaning.specs.Listing.{refused_line}
use Rattle.meaning.specs.Shown.{shown_by, shown}
use Rattle.answers.specs.Answers as engine
use Rattle.answers.specs.Answers.{answer_is, outcome_is}
use Rattle.passes.specs.Together.{some_ratio}
use Rattle.network.specs.Answers.{Passed, passed_all}
use Rattle.listing.specs.Sizes.{most_ratios, records_size}
use Rattle.listing.specs.Fitting.{Fitting, done_fits}
use Rattle.listing.specs.Printed.{lent_room, fitting_few}

-- the number, from 1, of what is named (0: the last)
abbrev pub number_of : (named count : ℕ) → ℕ
number_of named count = when named =? 0 then count else named

-- the line of a refusal
abbrev line_of : Answer → List ℕ
line_of (Accepted nq blocks ratios) = []
line_of (Refused number line) = refused_line number line

-- and the counts of an acceptance
abbrev blocks_in : Answer → ℕ
blocks_in (Accepted nq blocks ratios) = blocks
blocks_in (Refused number line) = 0

abbrev ratios_in : Answer → ℕ
ratios_in (Accepted nq blocks ratios) = ratios
ratios_in (Refused number line) = 0

abbrev ordinates_in : Answer → ℕ
ordinates_in (Accepted nq blocks ratios) = nq
ordinates_in (Refused number line) = 0

-- ROOM ENOUGH: 17 is then a matter of the numbers that are named
module _ (named ratio : ℕ) (τ : Time) (rss : List (List Result)) (f : Fitting τ rss) where
  room-named : no_room named ratio τ.ordinates (block_count rss) (length rss) lent_room ≡ ((block_count rss <? named) || (length rss <? ratio))
  unfolding no_room
  room-named =
      let nine : length rss ≤ most_ratios = omega (arith, (fitting_few τ rss f).ratios-few, f.ratios) in
      let lots : record_bytes (block_count rss) (length rss) ≤ records_size = omega (arith, mul-le-mul f.few nine) in
      rw (le-ltb most_ordinates τ.ordinates f.time.few_ordinates, le-ltb records_size (record_bytes (block_count rss) (length rss)) lots)

-- REFUSED
module _ (text : Time → List Result → List ℕ) (deck : List ℕ) (named ratio : ℕ) where
  by_room : (t : Bool) (τ : Time) (rss : List (List Result)) (some : List ℕ) (number line : ℕ)
      → (when t then refused 17 0 lent_room else accepted named ratio τ rss lent_room).answer ≡ Refused number line
      → (when t then refused_line 17 0 else some) ≡ refused_line number line
  unfolding when◌then◌else◌
  by_room true τ rss some number line h = ap line_of h
  by_room false τ rss some number line h = let z : ◌≡◌ {A = ℕ} 0 1 = cc in absurd (omega arith)

  by_work : (w : Worked) → worked deck ≡ w → (number line : ℕ) → (settled named ratio lent_room w).answer ≡ Refused number line
      → shown_by text named ratio w ≡ refused_line number line
  by_work (Stopped n l) e number line h = ap line_of h
  by_work (Done τ rss) e number line h =
      by_room ((block_count rss <? named) || (length rss <? ratio)) τ rss _ number line (rw (room-named named ratio τ rss (done_fits deck e)) at h)

  by_length : (long : Bool) (number line : ℕ)
      → (when long then refused 2 0 lent_room else settled named ratio lent_room (worked deck)).answer ≡ Refused number line
      → (when long then refused_line 2 0 else shown_by text named ratio (worked deck)) ≡ refused_line number line
  unfolding when◌then◌else◌
  by_length true number line h = ap line_of h
  by_length false number line h = by_work (worked deck) refl number line h

  pub refused-shown : (number line : ℕ) → (outcome deck named ratio lent_room).answer ≡ Refused number line → shown text deck named ratio ≡ refused_line number line
  unfolding outcome shown when◌then◌else◌
  refused-shown number line h = by_length (deck_size <? length deck) number line h

-- ACCEPTED. A number that is named is one of those there are.
number_by : (t : Bool) (named count : ℕ) → (named =? 0) ≡ t → named ≤ count → 0 < count → (0 < (when t then count else named)) × ((when t then count else named) ≤ count)
unfolding when◌then◌else◌
number_by true named count e few some = (some, omega arith)
number_by false named count e few some = let other = eqb-false named 0 e in (positive named other, few)
  where
    positive : (n : ℕ) → (n ≡ 0 → ⊥) → 0 < n
    positive zero none = absurd (none refl)
    positive (suc n) none = omega arith

pub number_within : (named count : ℕ) → named ≤ count → 0 < count → (0 < number_of named count) × (number_of named count ≤ count)
number_within named count = number_by (named =? 0) named count refl

pub record Named (deck : List ℕ) (named ratio nq blocks ratios : ℕ) : Type 0 where
  pub passed : Passed deck named ratio lent_room nq blocks ratios
  pub time : Time
  pub results : List (List Result)
  pub done : worked deck ≡ Done time results
  pub ordinates-are : time.ordinates ≡ nq
  pub blocks-are : block_count results ≡ blocks
  pub ratios-are : length results ≡ ratios
  pub there : ((block_count results <? named) || (length results <? ratio)) ≡ false
  pub block : (0 < number_of named (block_count results)) × (number_of named (block_count results) ≤ block_count results)
  pub place : (0 < number_of ratio (length results)) × (number_of ratio (length results) ≤ length results)
  pub some : (0 < block_count results) × (0 < length results)

module _ (deck : List ℕ) (named ratio : ℕ) where
  pub accepted-named : (nq blocks ratios : ℕ) → (outcome deck named ratio lent_room).answer ≡ Accepted nq blocks ratios → Named deck named ratio nq blocks ratios
  accepted-named nq blocks ratios h =
      let p = passed_all deck named ratio lent_room nq blocks ratios h in
      let w = p.settles in
      let f = done_fits deck w.done in
      let there = sym (room-named named ratio w.time w.results f) ∙ w.room in
      let apart = both_fail (block_count w.results <? named) (length w.results <? ratio) there in
      let many : 0 < length w.results = omega (arith, f.ratios, some_ratio w.time) in
      record {
        passed = p;
        time = w.time;
        results = w.results;
        done = w.done;
        ordinates-are = ap ordinates_in w.answer;
        blocks-are = ap blocks_in w.answer;
        ratios-are = ap ratios_in w.answer;
        there = there;
        block = number_within named (block_count w.results) (ltb-false (block_count w.results) named apart.0) f.some;
        place = number_within ratio (length w.results) (ltb-false (length w.results) ratio apart.1) many;
        some = (f.some, many);
      }

  module _ (text : Time → List Result → List ℕ) where
    pub accepted-shown : {nq blocks ratios : ℕ} (n : Named deck named ratio nq blocks ratios)
        → shown text deck named ratio ≡ text (under (ratio_at (place_of ratio (length n.results)) n.time) n.time) (named_ratio ratio n.results)
    unfolding shown when◌then◌else◌
    accepted-shown n = rw (le-ltb deck_size (length deck) n.passed.short, n.done, n.there)

-- BY THE ANSWER OF THE ENGINE
module _ (deck : List ℕ) (named ratio : ℕ) (a : engine.Answer) {work ordinates records : List ℕ} {w q r : ℕ}
    (e : outcome_is a work ordinates records ≡ outcome deck named ratio (record { work = w; ordinates = q; records = r }))
    (words : w ≡ work_size) (flows : q ≡ most_ordinates) (bytes : r ≡ records_size) where
  lent : ◌≡◌ {A = Lent} (record { work = w; ordinates = q; records = r }) lent_room
  lent = rw (words, flows, bytes)

  pub same_outcome : outcome_is a work ordinates records ≡ outcome deck named ratio lent_room
  same_outcome = e ∙ ap (λ (l : Lent). outcome deck named ratio l) lent

  pub said : answer_is a ≡ (outcome deck named ratio lent_room).answer
  said = ap (λ (o : Outcome). o.answer) same_outcome
