-- What the rounds of a deck come to, all of them together.
--     EveryIs     the refusal that is met first; or the results under each ratio, told by the records and the named ordinates
--     every_is    that they do
use Rattle.std.specs.Prelude as std
use Rattle.std.specs.Prelude.{ℕ, ◌≤◌, ◌≡◌, Ok, Err, List, [], ◌∷◌, length, get_or}
use Rattle.std.proofs.Common.{sym, subst, ◌∙◌, arith}
use Rattle.meaning.specs.Blocks.{Time, or_whole}
use Rattle.meaning.specs.Results.{Result}
use Rattle.meaning.specs.Run as run
use Rattle.meaning.specs.Run.{Stopped, Done, Only, worked_under, worked, block_count, most_blocks}
use Rattle.blocks.specs.Meant.{ratios_is}
use Rattle.passes.specs.Apart.{ratio_count}
use Rattle.passes.specs.Loop.{Holds, Stands, loop_found}
use Rattle.refusals.specs.declared.Refused.{Refused}
use Rattle.turns.specs.declared.Worked.{Worked}
use Rattle.lending.specs.Sooner.{blocks_in}
use Rattle.walking.specs.declared.Walked.{Walked}
use Rattle.answers.specs.declared.Wanted.{Wanted}
use Rattle.rounds.specs.Rounds.{Tells, Rounds}

pub record EveryDone (deck : List ℕ) (wanted : Wanted) (n m : ℕ) (listed : List ℕ) (nq blocks : ℕ) (ordinates records : List ℕ) : Type 0 where
  pub time : Time
  pub results : List (List Result)
  pub done : worked deck ≡ Done time results
  pub listed-are : time.listed ≡ listed
  pub ordinates-are : time.ordinates ≡ nq
  pub blocks-are : block_count results ≡ blocks
  pub few : blocks ≤ most_blocks
  pub holds : Holds deck wanted.block wanted.ratio n m (length (or_whole listed)) time results ordinates records

abbrev pub EveryBy : List ℕ → Wanted → (n m : ℕ) → (listed : List ℕ) → std.Result Worked Refused → (ordinates records : List ℕ) → Type 0
EveryBy deck wanted n m listed (Err r) ordinates records = worked deck ≡ Stopped r.number r.line
EveryBy deck wanted n m listed (Ok w) ordinates records = EveryDone deck wanted n m listed w.nq w.blocks ordinates records

pub record EveryIs (deck : List ℕ) (wanted : Wanted) (n m : ℕ) (w : Walked) (ordinates records : List ℕ) : Type 0 where
  pub every : EveryBy deck wanted n m (ratios_is w.ratios) w.worked ordinates records
  pub few-ratios : w.ratios.count ≤ 9

module _ (deck : List ℕ) (wanted : Wanted) (n m : ℕ) (ordinates records : List ℕ) where
  -- after the last round
  every_by : (k : ℕ) (f : run.Worked) (w : std.Result Worked Refused) (listed : List ℕ) → Tells f w → Stands deck wanted.block wanted.ratio n m k f ordinates records
      → ratio_count deck ≤ k → length (or_whole listed) ≡ ratio_count deck → blocks_in w ≤ most_blocks
      → ((τ : Time) (rs : List Result) → worked_under (Only 0) deck ≡ Done τ (rs ∷ []) → τ.listed ≡ listed) → EveryBy deck wanted n m listed w ordinates records
  every_by k (Stopped number line) (Err r) listed p s last count few first =
      loop_found deck wanted.block wanted.ratio n m k (Stopped number line) ordinates records s last ∙ rw (p.0, p.1)
  every_by k (Stopped number line) (Ok w) listed p s last count few first = absurd p
  every_by k (Done τ rss) (Err r) listed p s last count few first = absurd p
  every_by k (Done τ rss) (Ok w) listed p s last count few first =
      let all : k ≡ length (or_whole listed) = omega (arith, s.up, last, count) in
      record {
        time = τ;
        results = rss;
        done = loop_found deck wanted.block wanted.ratio n m k (Done τ rss) ordinates records s last;
        listed-are = first τ (get_or rss 0 []) s.holds.first;
        ordinates-are = sym p.0;
        blocks-are = sym p.1;
        few = few;
        holds = subst (λ (j : ℕ). Holds deck wanted.block wanted.ratio n m j τ rss ordinates records) all s.holds;
      }

  pub every_is : (k : ℕ) (w : Walked) → Rounds deck wanted n m k w.worked ordinates records → ratio_count deck ≤ k → length (or_whole (ratios_is w.ratios)) ≡ ratio_count deck → w.ratios.count ≤ 9
      → ((τ : Time) (rs : List Result) → worked_under (Only 0) deck ≡ Done τ (rs ∷ []) → τ.listed ≡ ratios_is w.ratios) → EveryIs deck wanted n m w ordinates records
  every_is k w r last count nine listed =
      record { every = every_by k r.meant w.worked (ratios_is w.ratios) r.tells r.stands last count r.few listed; few-ratios = nine }
