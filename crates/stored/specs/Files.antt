-- THE FILE THAT AN ACCEPTED RUN MAKES: the records of its blocks, ratio by ratio. Where 1.00 is its one ratio, as it is without JR, the file moves back, and is then the
-- records as they were before they said their ratio; with any other ratios it never does.
--     back_by, stays_by     of a deck that is worked to its end
--     made-file             of an accepted run
use Rattle.std.specs.Prelude.{ℕ, ◌+◌, ◌-◌, ◌*◌, ◌^◌, ◌≤◌, ◌<◌, ◌≡◌, refl, Bool, true, false, List, [], ◌∷◌, ◌++◌, map, length, take, get_or, replicate}
use Rattle.std.proofs.Common.{sym, ap, ◌∙◌, append-nil, arith, length-append, take_at}
use Rattle.sequences.specs.Choices.{both_fail}
use Rattle.meaning.specs.Blocks.{Time, or_whole, ratios_of, ratio_at}
use Rattle.meaning.specs.Results.{Result, record_size, old_record_size, old_record_of, record_of, records_of}
use Rattle.meaning.specs.Run.{Done, worked, Lent, Accepted, Outcome, block_count, all_records, record_bytes, outcome}
use Rattle.meaning.specs.Moving.{new_padding, old_form, joined, any_filled, any_other, Moved, Unmoved, to_old}
use Rattle.limits.specs.Within.{TimeWithin}
use Rattle.results.specs.Records.{Each, length_record, length-records}
use Rattle.figures.specs.Listed.{Fits}
use Rattle.printing.specs.Listed.{Lots, each_named}
use Rattle.listing.specs.Fitting.{Fitting, done_fits}
use Rattle.passes.specs.Together.{some_ratio}
use Rattle.network.specs.Answers.{passed_all, passed_accepted}
use Rattle.moving.specs.Ways.{any_filled-append, any_other_append}
use Rattle.files.specs.Joined.{Sized, joined-append, sized_append}
use Rattle.files.specs.ThereAndBack.{records_to_old, records_other}
use Rattle.stored.specs.Records.{record_clean, record_whole, record_other, record_old, length-old_record}

-- THE RECORDS, one by one: of a ratio, and of the ratios from place k on
abbrev records_at : Time → ℕ → List Result → List (List ℕ)
records_at τ k rs = map (record_of (ratio_at k τ) (k + 1)) rs

abbrev records_from : Time → ℕ → List (List Result) → List (List ℕ)
records_from τ k [] = []
records_from τ k (rs ∷ rss) = records_at τ k rs ++ records_from τ (k + 1) rss

joined-records : (ratio place : ℕ) (rs : List Result) → joined (map (record_of ratio place) rs) ≡ records_of ratio place rs
joined-records ratio place [] = refl
joined-records ratio place (r ∷ rs) = ap (λ (l : List ℕ). record_of ratio place r ++ l) (joined-records ratio place rs)

joined_all : (τ : Time) (k : ℕ) (rss : List (List Result)) → joined (records_from τ k rss) ≡ all_records τ k rss
joined_all τ k [] = refl
joined_all τ k (rs ∷ rss) = joined-append (records_at τ k rs) (records_from τ (k + 1) rss) ∙ rw (joined-records (ratio_at k τ) (k + 1) rs, joined_all τ (k + 1) rss)

length_all : (τ : Time) (k blocks : ℕ) (rss : List (List Result)) → Lots blocks rss → length (all_records τ k rss) ≡ record_bytes blocks (length rss)
length_all τ k blocks [] lots = omega arith
length_all τ k blocks (rs ∷ rss) lots =
    let one = length-records (ratio_at k τ) (k + 1) rs (each_named rs lots.0.1) in
    let rest = length_all τ (k + 1) blocks rss lots.1 in
    omega (arith, length-append (records_of (ratio_at k τ) (k + 1) rs) (all_records τ (k + 1) rss), one, lots.0.0, rest)

-- each of the new form's size, with zero padding
sized_at : (ratio place : ℕ) (rs : List Result) → Each Fits rs → Sized record_size (map (record_of ratio place) rs)
sized_at ratio place [] fs = tt
sized_at ratio place (r ∷ rs) fs = (length_record ratio place r fs.0.short, sized_at ratio place rs fs.1)

sized_from : (τ : Time) (k blocks : ℕ) (rss : List (List Result)) → Lots blocks rss → Sized record_size (records_from τ k rss)
sized_from τ k blocks [] lots = tt
sized_from τ k blocks (rs ∷ rss) lots =
    sized_append record_size (records_at τ k rs) (records_from τ (k + 1) rss) (sized_at (ratio_at k τ) (k + 1) rs lots.0.1) (sized_from τ (k + 1) blocks rss lots.1)

clean_append : (xs ys : List (List ℕ)) → any_filled new_padding xs ≡ false → any_filled new_padding ys ≡ false → any_filled new_padding (xs ++ ys) ≡ false
clean_append xs ys h g = any_filled-append new_padding xs ys ∙ rw (h, g)

clean_at : (ratio place : ℕ) (rs : List Result) → Each Fits rs → any_filled new_padding (map (record_of ratio place) rs) ≡ false
unfolding any_filled
clean_at ratio place [] fs = refl
clean_at ratio place (r ∷ rs) fs = rw (record_clean ratio place r fs.0.short, clean_at ratio place rs fs.1)

clean_from : (τ : Time) (k blocks : ℕ) (rss : List (List Result)) → Lots blocks rss → any_filled new_padding (records_from τ k rss) ≡ false
unfolding any_filled
clean_from τ k blocks [] lots = refl
clean_from τ k blocks (rs ∷ rss) lots =
    clean_append (records_at τ k rs) (records_from τ (k + 1) rss) (clean_at (ratio_at k τ) (k + 1) rs lots.0.1) (clean_from τ (k + 1) blocks rss lots.1)

-- WHERE 1.00 IS THE ONE RATIO
plain_at : (rs : List Result) → Each Fits rs → any_other (map (record_of 100 1) rs) ≡ false
unfolding any_other
plain_at [] fs = refl
plain_at (r ∷ rs) fs = rw (record_whole 100 1 r fs.0.short refl refl, plain_at rs fs.1)

old_at : (ratio place : ℕ) (rs : List Result) → Each Fits rs → map old_form (map (record_of ratio place) rs) ≡ map old_record_of rs
old_at ratio place [] fs = refl
old_at ratio place (r ∷ rs) fs = rw (record_old ratio place r fs.0.short, old_at ratio place rs fs.1)

-- the records as they were before they said their ratio
abbrev pub old_records : List Result → List ℕ
old_records rs = joined (map old_record_of rs)

length-old-records : (rs : List Result) → Each Fits rs → length (old_records rs) ≡ old_record_size * length rs
length-old-records [] fs = refl
length-old-records (r ∷ rs) fs =
    omega (arith, length-append (old_record_of r) (old_records rs), length-old_record r fs.0.short, length-old-records rs fs.1)

first_whole : (τ : Time) → ratios_of τ ≡ 100 ∷ [] → ratio_at 0 τ ≡ 100
first_whole τ e = by τ.listed e
  where
    by : (listed : List ℕ) → or_whole listed ≡ 100 ∷ [] → get_or listed 0 100 ≡ 100
    by [] e = refl
    by (r ∷ rs) e = ap (λ (l : List ℕ). get_or l 0 100) e

-- WHERE IT IS NOT: records that all have an old form are those of one ratio, 1.00
plain-append : (xs ys : List (List ℕ)) → any_other (xs ++ ys) ≡ false → (any_other xs ≡ false) × (any_other ys ≡ false)
plain-append xs ys h = both_fail (any_other xs) (any_other ys) (sym (any_other_append xs ys) ∙ h)

plain_lot : (ratio place blocks : ℕ) (rs : List Result) → 0 < blocks → (length rs ≡ blocks) × Each Fits rs → ratio < 256 ^ 2 → place < 256 ^ 2
    → any_other (map (record_of ratio place) rs) ≡ false → (ratio ≡ 100) × (place ≡ 1)
unfolding any_other
plain_lot ratio place blocks [] some lot small near plain = absurd (omega (arith, lot.0))
plain_lot ratio place blocks (r ∷ rs) some lot small near plain = record_other ratio place r lot.1.0.short small near (both_fail _ _ plain).0

one_ratio : (τ : Time) (blocks : ℕ) (rss : List (List Result)) → TimeWithin τ → 0 < blocks → Lots blocks rss → length rss ≡ length (ratios_of τ) → any_other (records_from τ 0 rss) ≡ false
    → (length (ratios_of τ) ≡ 1) × (ratio_at 0 τ ≡ 100)
one_ratio τ blocks [] within some lots long plain = absurd (omega (arith, long, some_ratio τ))
one_ratio τ blocks (rs ∷ []) within some lots long plain =
    let first = (plain-append (records_at τ 0 rs) [] plain).0 in
    (sym long, (plain_lot (ratio_at 0 τ) 1 blocks rs some lots.0 (omega (arith, within.small-ratios 0)) (omega arith) first).0)
one_ratio τ blocks (rs ∷ qs ∷ rss) within some lots long plain =
    let behind = (plain-append (records_at τ 0 rs) (records_from τ 1 (qs ∷ rss)) plain).1 in
    let second = (plain-append (records_at τ 1 qs) (records_from τ 2 rss) behind).0 in
    absurd (omega (arith, (plain_lot (ratio_at 1 τ) 2 blocks qs some lots.1.0 (omega (arith, within.small-ratios 1)) (omega arith) second).1))

whole-alone : (τ : Time) → length (ratios_of τ) ≡ 1 → ratio_at 0 τ ≡ 100 → ratios_of τ ≡ 100 ∷ []
whole-alone τ = by τ.listed
  where
    by : (listed : List ℕ) → length (or_whole listed) ≡ 1 → get_or listed 0 100 ≡ 100 → or_whole listed ≡ 100 ∷ []
    by [] one e = refl
    by (r ∷ []) one e = rw e
    by (r ∷ q ∷ rs) one e = absurd (omega arith)

-- OF A DECK that is worked to its end
module _ (deck : List ℕ) (τ : Time) (rss : List (List Result)) (done : worked deck ≡ Done τ rss) where
  f : Fitting τ rss
  f = done_fits deck done

  abbrev file : List ℕ
  file = all_records τ 0 rss

  others : (ratios_of τ ≡ 100 ∷ [] → ⊥) → (t : Bool) → any_other (records_from τ 0 rss) ≡ t → t ≡ true
  others other true e = refl
  others other false e =
      let one = one_ratio τ (block_count rss) rss f.time f.some f.lots f.ratios e in
      absurd (other (whole-alone τ one.0 one.1))

  pub stays_by : (ratios_of τ ≡ 100 ∷ [] → ⊥) → (room : ℕ) → to_old file room ≡ record { answer = Unmoved 3; room = replicate room 0 }
  stays_by other room =
      rw (sym (joined_all τ 0 rss))
      (records_other (records_from τ 0 rss) room (sized_from τ 0 (block_count rss) rss f.lots) (clean_from τ 0 (block_count rss) rss f.lots)
      (others other (any_other (records_from τ 0 rss)) refl))

  pub back_by : ratios_of τ ≡ 100 ∷ [] → (room : ℕ) → old_record_size * block_count rss ≤ room
      → to_old file room ≡ record {
        answer = Moved (old_record_size * block_count rss);
        room = old_records (get_or rss 0 []) ++ replicate (room - old_record_size * block_count rss) 0;
      }
  back_by whole room enough = back rss f.lots (f.ratios ∙ ap length whole) (first_whole τ whole) enough
    where
      back : (rss : List (List Result)) → Lots (block_count rss) rss → length rss ≡ 1 → ratio_at 0 τ ≡ 100 → old_record_size * block_count rss ≤ room
          → to_old (all_records τ 0 rss) room ≡ record {
            answer = Moved (old_record_size * block_count rss);
            room = old_records (get_or rss 0 []) ++ replicate (room - old_record_size * block_count rss) 0;
          }
      back [] lots one e enough = absurd (omega arith)
      back (rs ∷ qs ∷ rss) lots one e enough = absurd (omega arith)
      back (rs ∷ []) lots one e enough =
          let fit = lots.0.1 in
          let long = length-old-records rs fit in
          let same : joined (map old_form (map (record_of 100 1) rs)) ≡ old_records rs = ap joined (old_at 100 1 rs fit) in
          let room_enough : length (joined (map old_form (map (record_of 100 1) rs))) ≤ room = omega (arith, ap length same, long) in
          let made : all_records τ 0 (rs ∷ []) ≡ joined (map (record_of 100 1) rs) =
          append-nil (records_of (ratio_at 0 τ) 1 rs) ∙ ap (λ (r : ℕ). records_of r 1 rs) e ∙ sym (joined-records 100 1 rs) in
          ap (λ (l : List ℕ). to_old l room) made
          ∙ rw (same, long) at (records_to_old (map (record_of 100 1) rs) room (sized_at 100 1 rs fit) (clean_at 100 1 rs fit) (plain_at rs fit) room_enough)

-- OF AN ACCEPTED RUN. Its file is the bytes of records that it was lent, as far as they were written.
pub record MadeFile (deck : List ℕ) (named ratio : ℕ) (lent : Lent) (blocks ratios : ℕ) : Type 0 where
  pub time : Time
  pub results : List (List Result)
  pub done : worked deck ≡ Done time results
  pub file : take (record_bytes blocks ratios) (outcome deck named ratio lent).records ≡ all_records time 0 results
  -- without JR, and where 1.00 is all that it lists, it moves back, to the old records of the deck's blocks
  pub back : ratios_of time ≡ 100 ∷ [] → (room : ℕ) → old_record_size * blocks ≤ room
      → to_old (take (record_bytes blocks ratios) (outcome deck named ratio lent).records) room
      ≡ record { answer = Moved (old_record_size * blocks); room = old_records (get_or results 0 []) ++ replicate (room - old_record_size * blocks) 0 }
  -- else it never does
  pub stays : (ratios_of time ≡ 100 ∷ [] → ⊥) → (room : ℕ)
      → to_old (take (record_bytes blocks ratios) (outcome deck named ratio lent).records) room ≡ record { answer = Unmoved 3; room = replicate room 0 }

pub made-file : (deck : List ℕ) (named ratio : ℕ) (lent : Lent) (nq blocks ratios : ℕ) → (outcome deck named ratio lent).answer ≡ Accepted nq blocks ratios
    → MadeFile deck named ratio lent blocks ratios
made-file deck named ratio lent nq blocks ratios answer =
    let p = passed_all deck named ratio lent nq blocks ratios answer in
    let τ = p.settles.time in
    let rss = p.settles.results in
    let done = p.settles.done in
    let same_blocks : block_count rss ≡ blocks = cc p.settles.answer in
    let same-ratios : length rss ≡ ratios = cc p.settles.answer in
    let long : length (all_records τ 0 rss) ≡ record_bytes blocks ratios =
    length_all τ 0 (block_count rss) rss (done_fits deck done).lots ∙ rw (same_blocks, same-ratios) in
    let file : take (record_bytes blocks ratios) (outcome deck named ratio lent).records ≡ all_records τ 0 rss =
    ap (λ (o : Outcome). take (record_bytes blocks ratios) o.records) (passed_accepted deck named ratio lent p) ∙ take_at (all_records τ 0 rss) _ (record_bytes blocks ratios) long in
    record {
      time = τ;
      results = rss;
      done = done;
      file = file;
      back = λ whole room enough. ap (λ (l : List ℕ). to_old l room) file ∙ rw same_blocks at (back_by deck τ rss done whole room (rw same_blocks enough));
      stays = λ other room. ap (λ (l : List ℕ). to_old l room) file ∙ stays_by deck τ rss done other room;
    }

-- A deck without JR lists no ratio, and then 1.00 is its one ratio.
pub without-JR : (τ : Time) → τ.listed ≡ [] → ratios_of τ ≡ 100 ∷ []
without-JR τ e = rw e
