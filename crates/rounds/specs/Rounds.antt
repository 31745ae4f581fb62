-- What holds between two rounds.
--     Tells              what a round has found, as the code tells it
--     Rounds             what holds after so many rounds; Begun: after the first one, with the deck's ratios
--     round_first, round_more    that it does
use Rattle.std.specs.Prelude as std
use Rattle.std.specs.Prelude.{ℕ, ◌+◌, ◌-◌, ◌*◌, ◌≤◌, ◌<◌, min, ◌≡◌, refl, Bool, true, false, Ok, Err, is_err, ◌⊎◌, List, [], ◌∷◌, ◌++◌, length, take, drop, get_or, replicate}
use Rattle.std.proofs.Common.{sym, ap, ◌∙◌, subst, true≢false, inl, inr, ⊎_elim, append-nil, arith, length-take, drop_of_length-le, take_all}
use Rattle.std.proofs.lemmas.Bool.{false≢true}
use Rattle.sequences.specs.Choices.{below_or_not}
use Rattle.meaning.specs.Words.{when◌then◌else◌}
use Rattle.meaning.specs.Blocks.{Time, or_whole, ratio_at}
use Rattle.meaning.specs.Results.{Result, record_size}
use Rattle.meaning.specs.Run as run
use Rattle.meaning.specs.Run.{Stopped, Done, Only, worked_under, worked, block_count, record_bytes, most_blocks}
use Rattle.blocks.specs.declared.Ratios.{Ratios}
use Rattle.blocks.specs.Meant.{ratios_is}
use Rattle.results.specs.Records.{length-records}
use Rattle.passes.specs.Apart.{comes_first, sooner, ratio_count}
use Rattle.passes.specs.Loop as loop
use Rattle.passes.specs.Loop.{WalkIs, Holds, HoldsOf, Stands, OrdinatesLent, holds_first, holds-refused, holds_still_refused, lent-zeros, loop_more, loop_found}
use Rattle.passes.proofs.Loop.{holds_more, loop_first}
use Rattle.refusals.specs.declared.Refused.{Refused}
use Rattle.turns.specs.declared.Worked.{Worked}
use Rattle.lending.specs.Sooner.{sooner_by, sooner_of, first_of, blocks_in}
use Rattle.walking.specs.declared.Walked.{Walked}
use Rattle.walking.specs.Going.{DoneIs, WorkedIs, WalkedIs}
use Rattle.answers.specs.declared.Wanted.{Wanted}
use Rattle.lending.specs.Lent.{ordinates_from, records_from, ordinates-here, ordinates_else, records-refused, records_past, records-at, records-left}

abbrev pub Tells : run.Worked → std.Result Worked Refused → Type 0
Tells (Stopped number line) (Err r) = (r.number ≡ number) × (r.line ≡ line)
Tells (Stopped number line) (Ok w) = ⊥
Tells (Done τ rss) (Err r) = ⊥
Tells (Done τ rss) (Ok w) = (w.nq ≡ τ.ordinates) × (w.blocks ≡ block_count rss)

-- THE CODE TELLS what is met first
both_stopped : (first t : Bool) (n l m k : ℕ) (r s : Refused) → first ≡ t → Tells (Stopped n l) (Err r) → Tells (Stopped m k) (Err s)
    → Tells (when t then Stopped n l else Stopped m k) (sooner_by first r s)
unfolding when◌then◌else◌
both_stopped true true n l m k r s e p q = p
both_stopped false false n l m k r s e p q = q
both_stopped true false n l m k r s e p q = absurd (true≢false e)
both_stopped false true n l m k r s e p q = absurd (false≢true e)

tells_sooner : (f g : run.Worked) (w v : std.Result Worked Refused) → Tells f w → Tells g v → ((τ : Time) (rss : List (List Result)) → f ≡ Done τ rss → 0 < length rss)
    → Tells (sooner f g) (sooner_of w v)
tells_sooner (Stopped n l) (Stopped m k) (Err r) (Err s) p q some = both_stopped (first_of r s) (comes_first n l m k) n l m k r s (rw (p.0, p.1, q.0, q.1)) p q
tells_sooner (Stopped n l) (Done σ qss) (Err r) (Ok v) p q some = p
tells_sooner (Done τ rss) (Stopped m k) (Ok w) (Err s) p q some = q
tells_sooner (Done τ rss) (Done σ qss) (Ok w) (Ok v) p q some = (p.0, p.1 ∙ first_kept rss qss (some τ rss refl))
  where
    first_kept : (rss qss : List (List Result)) → 0 < length rss → block_count rss ≡ block_count (rss ++ qss)
    first_kept [] qss h = absurd (omega arith)
    first_kept (rs ∷ rss) qss h = refl
tells_sooner (Stopped n l) (Stopped m k) (Err r) (Ok v) p q some = absurd q
tells_sooner (Stopped n l) (Done σ qss) (Err r) (Err s) p q some = absurd q
tells_sooner (Done τ rss) (Stopped m k) (Ok w) (Ok v) p q some = absurd q
tells_sooner (Done τ rss) (Done σ qss) (Ok w) (Err s) p q some = absurd q
tells_sooner (Stopped n l) g (Ok w) v p q some = absurd p
tells_sooner (Done τ rss) g (Err r) v p q some = absurd p

-- where it is not refused, it is what was found
refused_few : (t : Bool) (r s : Refused) → blocks_in (sooner_by t r s) ≤ most_blocks
refused_few true r s = omega arith
refused_few false r s = omega arith

sooner_few : (w v : std.Result Worked Refused) → blocks_in w ≤ most_blocks → blocks_in (sooner_of w v) ≤ most_blocks
sooner_few w (Ok v) few = few
sooner_few (Ok w) (Err s) few = omega arith
sooner_few (Err r) (Err s) few = refused_few (first_of r s) r s

-- WHAT HOLDS after k rounds, of which n ordinates and m bytes of records were lent to the run
pub record Rounds (deck : List ℕ) (wanted : Wanted) (n m k : ℕ) (found : std.Result Worked Refused) (ordinates records : List ℕ) : Type 0 where
  pub meant : run.Worked
  pub tells : Tells meant found
  pub stands : Stands deck wanted.block wanted.ratio n m k meant ordinates records
  pub few : blocks_in found ≤ most_blocks

pub record Begun (deck : List ℕ) (wanted : Wanted) (n m : ℕ) (w : Walked) (ordinates records : List ℕ) : Type 0 where
  pub rounds : Rounds deck wanted n m 1 w.worked ordinates records
  pub ratios : length (or_whole (ratios_is w.ratios)) ≡ ratio_count deck
  pub few-ratios : w.ratios.count ≤ 9
  pub listed : (τ : Time) (rs : List Result) → worked_under (Only 0) deck ≡ Done τ (rs ∷ []) → τ.listed ≡ ratios_is w.ratios

-- nine ratios at most
pub counted_nine : (r : Ratios) → r.count ≤ 9 → length (or_whole (ratios_is r)) ≤ 9
counted_nine r few = whole_few (ratios_is r) (rw (length-take r.count r.values) (omega arith))
  where
    whole_few : (rs : List ℕ) → length rs ≤ 9 → length (or_whole rs) ≤ 9
    whole_few [] h = omega arith
    whole_few (x ∷ rs) h = h

-- a round that came to its end, in the words of the loop
walk_is : {deck : List ℕ} {named k n m : ℕ} {listed : List ℕ} {nq blocks : ℕ} {ordinates records : List ℕ} (d : DoneIs deck named k n m listed nq blocks ordinates records)
    → WalkIs deck k named n m d.time d.results ordinates records
walk_is {k = k} d =
    record {
      done = d.done;
      long = length-records (ratio_at k d.time) (k + 1) d.results d.names;
      told = d.told;
      flow = λ few room. rw d.ordinates-are (d.flow few (rw d.ordinates-are at room));
    }

-- all the ordinates were lent, or none
take_none : (xs ys : List ℕ) (a : ℕ) → a ≡ 0 → take a xs ++ ys ≡ ys
take_none xs ys a e = rw e

no_more : (ys : List ℕ) → length ys ≡ 0 → ys ≡ []
no_more [] e = refl
no_more (y ∷ ys) e = absurd (omega arith)

take_whole : (xs ys : List ℕ) (a : ℕ) → a ≡ length xs → length ys ≡ length xs - a → take a xs ++ ys ≡ xs
take_whole xs ys a e l = rw (no_more ys (omega arith), take_all a xs (omega arith)) (append-nil xs)

module _ (deck : List ℕ) (wanted : Wanted) (n m k : ℕ) (ordinates lent after : List ℕ) (n-long : length ordinates ≡ n) where
  abbrev ratio : ℕ
  ratio = wanted.ratio

  ordinates-lent : length lent ≡ n - ordinates_from false ratio k n → after ≡ take (ordinates_from false ratio k n) ordinates ++ lent
      → OrdinatesLent ratio n k (n - ordinates_from false ratio k n) ordinates lent after
  ordinates-lent l e =
      record {
        written = λ (h : (ratio ≡ 0) ⊎ (ratio ≡ k + 1)).
            let none = ordinates-here ratio k n h in
            (omega (arith, none), e ∙ take_none ordinates lent (ordinates_from false ratio k n) none);
        left = λ (some : 0 < ratio) (below : ratio ≤ k).
            let all = ordinates_else ratio k n some below in
            e ∙ take_whole ordinates lent (ordinates_from false ratio k n) (all ∙ sym n-long) (l ∙ ap (λ (x : ℕ). x - ordinates_from false ratio k n) (sym n-long));
      }

-- THE FIRST ROUND
module _ (deck : List ℕ) (wanted : Wanted) (n m : ℕ) (w : Walked) (ordinates lent after records : List ℕ) (n-long : length ordinates ≡ n) where
  abbrev from : ℕ
  from = ordinates_from false wanted.ratio 0 n

  module _ (l : length lent ≡ n - from) (e : after ≡ take from ordinates ++ lent) where
    first_by : (v : std.Result Worked Refused) (listed : List ℕ) → WorkedIs deck wanted.block 0 (n - from) m listed v lent records
        → Rounds deck wanted n m 1 v after records × ((τ : Time) (rs : List Result) → worked_under (Only 0) deck ≡ Done τ (rs ∷ []) → τ.listed ≡ listed)
    first_by (Err e) listed stop = (
      record {
        meant = worked_under (Only 0) deck;
        tells = rw stop (refl, refl);
        stands = loop_first deck wanted.block wanted.ratio n m (worked_under (Only 0) deck) after records refl (rw stop tt);
        few = omega arith;
      },
      λ (τ : Time) (rs : List Result) d.
          let f : Stopped e.number e.line ≡ Done τ (rs ∷ []) = sym stop ∙ d in
          let z : ◌≡◌ {A = ℕ} 0 1 = cc in
          absurd (omega arith),
    )
    first_by (Ok v) listed d = (
      record {
        meant = worked_under (Only 0) deck;
        tells = rw d.done (sym d.ordinates-are, sym d.blocks-are);
        stands =
            loop_first deck wanted.block wanted.ratio n m (worked_under (Only 0) deck) after records refl
            (rw d.done
            (holds_first deck wanted.block wanted.ratio n m (n - from) d.time d.results ordinates lent after records (walk_is d)
            (ordinates-lent deck wanted n m 0 ordinates lent after n-long l e)));
        few = d.few;
      },
      λ (τ : Time) (rs : List Result) f. let same : d.time ≡ τ = time-of (sym d.done ∙ f) in sym (ap (λ (σ : Time). σ.listed) same) ∙ d.listed-are,
    )
      where
        time-of : {σ τ : Time} {rss qss : List (List Result)} → Done σ rss ≡ Done τ qss → σ ≡ τ
        time-of h = cc

    first-is : WalkedIs deck wanted.block 0 (n - from) m w lent records → Begun deck wanted n m w after records
    first-is walked =
        let both = first_by w.worked (ratios_is w.ratios) walked.worked in
        record { rounds = both.0; ratios = walked.ratios; few-ratios = walked.few-ratios; listed = both.1 }

  -- lent the ordinates from a place on
  pub round_first : (a : ℕ) → a ≡ from → length lent ≡ n - a → after ≡ take a ordinates ++ lent → WalkedIs deck wanted.block 0 (n - a) m w lent records → Begun deck wanted n m w after records
  round_first a is l e walked = first-is (rw is at l) (rw is at e) (rw is at walked)

-- ANOTHER ROUND
module _ (deck : List ℕ) (wanted : Wanted) (n m k : ℕ) (ordinates lent after records lent-records records' : List ℕ)
    (n-long : length ordinates ≡ n) (m-long : length records ≡ m) where
  abbrev a : std.Result Worked Refused → ℕ
  a found = ordinates_from (is_err found) wanted.ratio k n

  abbrev b : std.Result Worked Refused → ℕ
  b found = records_from (is_err found) (blocks_in found) k m

  abbrev NextIs : (found next : std.Result Worked Refused) → (listed : List ℕ) → Type 0
  NextIs found next listed = WorkedIs deck wanted.block k (n - a found) (m - b found) listed next lent lent-records

  abbrev HoldsNow : run.Worked → Type 0
  HoldsNow f = HoldsOf deck wanted.block wanted.ratio n m (k + 1) (sooner f (worked_under (Only k) deck)) after records'

  -- both came to their end
  both_done : (τ : Time) (rss : List (List Result)) (w v : Worked) → Holds deck wanted.block wanted.ratio n m k τ rss ordinates records → w.blocks ≡ block_count rss → (listed : List ℕ)
      → NextIs (Ok w) (Ok v) listed → length lent ≡ n - a (Ok w) → after ≡ take (a (Ok w)) ordinates ++ lent → records' ≡ take (b (Ok w)) records ++ lent-records → HoldsNow (Done τ rss)
  both_done τ rss w v h blocks listed d l eo er =
      let count = record_bytes (block_count rss) k in
      let at : record_bytes w.blocks k ≡ count = ap (λ (x : ℕ). record_bytes x k) blocks in
      let left : m - b (Ok w) ≡ m - count = records-left w.blocks k m ∙ ap (λ (x : ℕ). m - x) at in
      let walk : WalkIs deck k wanted.block (n - a (Ok w)) (m - count) d.time d.results lent lent-records =
      subst (λ (x : ℕ). WalkIs deck k wanted.block (n - a (Ok w)) x d.time d.results lent lent-records) left (walk_is d) in
      rw d.done
      (holds_more deck wanted.block wanted.ratio n m k τ rss ordinates records h (n - a (Ok w)) d.time d.results lent after lent-records records' walk
      (λ (room : count ≤ m). er ∙ ap (λ (x : ℕ). take x records ++ lent-records) (records-at w.blocks k m (rw at room) ∙ at))
      (ordinates-lent deck wanted n m k ordinates lent after n-long l eo))

  holds_by : (f : run.Worked) (found next : std.Result Worked Refused) → Tells f found → HoldsOf deck wanted.block wanted.ratio n m k f ordinates records → (listed : List ℕ)
      → NextIs found next listed → length lent ≡ n - a found → after ≡ take (a found) ordinates ++ lent → records' ≡ take (b found) records ++ lent-records → HoldsNow f
  holds_by (Stopped number line) found next p h listed d l eo er =
      holds_still_refused deck wanted.block wanted.ratio n m (worked_under (Only k) deck) number line (k + 1) after records'
  holds_by (Done τ rss) (Err e) next p h listed d l eo er = absurd p
  holds_by (Done τ rss) (Ok w) (Err s) p h listed d l eo er =
      rw d (holds-refused deck wanted.block wanted.ratio n m (Done τ rss) s.number s.line (k + 1) after records')
  holds_by (Done τ rss) (Ok w) (Ok v) p h listed d l eo er = both_done τ rss w v h p.1 listed d l eo er

  tells_next : (found next : std.Result Worked Refused) (listed : List ℕ) → NextIs found next listed → Tells (worked_under (Only k) deck) next
  tells_next found (Err s) listed d = rw d (refl, refl)
  tells_next found (Ok v) listed d = rw d.done (sym d.ordinates-are, sym d.blocks-are)

  some_of : (f : run.Worked) → HoldsOf deck wanted.block wanted.ratio n m k f ordinates records → (τ : Time) (rss : List (List Result)) → f ≡ Done τ rss → 0 < length rss
  some_of f h τ rss e = let d = rw e at h in omega (arith, d.some, d.ratios)

  -- lent the ordinates and the records from places on
  pub round_more : (found next : std.Result Worked Refused) → Rounds deck wanted n m k found ordinates records → k < ratio_count deck → (i j : ℕ) → i ≡ a found → j ≡ b found → (listed : List ℕ)
      → WorkedIs deck wanted.block k (n - i) (m - j) listed next lent lent-records
      → length lent ≡ n - i → after ≡ take i ordinates ++ lent → records' ≡ take j records ++ lent-records → Rounds deck wanted n m (k + 1) (sooner_of found next) after records'
  round_more found next r more i j ii ij listed worked long eo' er' =
      let d = rw (ii, ij) at worked in
      let l = rw ii at long in
      let eo = rw ii at eo' in
      let er = rw ij at er' in
      record {
        meant = sooner r.meant (worked_under (Only k) deck);
        tells = tells_sooner r.meant (worked_under (Only k) deck) found next r.tells (tells_next found next listed d) (some_of r.meant r.stands.holds);
        stands =
            loop_more deck wanted.block wanted.ratio n m k more ordinates records after records' r.meant (worked_under (Only k) deck) refl r.stands
            (holds_by r.meant found next r.tells r.stands.holds listed d l eo er);
        few = sooner_few found next r.few;
      }

-- what is lent of the records is zeros still
module _ (deck : List ℕ) (wanted : Wanted) (n m k : ℕ) (ordinates records : List ℕ) (m-long : length records ≡ m) where
  all_dropped : (j : ℕ) → j ≡ m → drop j records ≡ replicate (m - j) 0
  all_dropped j e = let none : m - j ≡ 0 = omega arith in rw none (drop_of_length-le records {i = j} (omega arith))

  zeros_by : (f : run.Worked) (found : std.Result Worked Refused) → Tells f found → HoldsOf deck wanted.block wanted.ratio n m k f ordinates records
      → drop (records_from (is_err found) (blocks_in found) k m) records ≡ replicate (m - records_from (is_err found) (blocks_in found) k m) 0
  zeros_by f (Err r) p h = all_dropped (records_from true 0 k m) (records-refused 0 k m)
  zeros_by (Stopped number line) (Ok w) p h = absurd p
  zeros_by (Done τ rss) (Ok w) p h =
      ⊎_elim
      (λ (few : m < record_bytes w.blocks k). all_dropped (records_from false w.blocks k m) (records_past w.blocks k m (omega arith)))
      (λ (room : record_bytes w.blocks k ≤ m).
      let count = record_bytes (block_count rss) k in
      let at : records_from false w.blocks k m ≡ count = records-at w.blocks k m room ∙ ap (λ (x : ℕ). record_bytes x k) p.1 in
      let fits : count ≤ m = rw (sym (ap (λ (x : ℕ). record_bytes x k) p.1)) room in
      rw at (lent-zeros deck wanted.block wanted.ratio n m k τ rss ordinates records h fits))
      (below_or_not m (record_bytes w.blocks k))

  pub records-zeros : (found : std.Result Worked Refused) → Rounds deck wanted n m k found ordinates records
      → drop (records_from (is_err found) (blocks_in found) k m) records ≡ replicate (m - records_from (is_err found) (blocks_in found) k m) 0
  records-zeros found r = zeros_by r.meant found r.tells r.stands.holds
