-- What the run carries from block to block: the results so far as the ordinates and the records have them, and what is held.
--     Carried           ordinates and records, with carried_none, carried_more, and, at an accepted end, carried-named and carried_last
--     HeldAfter         what is held after so many blocks, with held_none, held_more, held-within; depth-after, last_flow
use Rattle.std.specs.Prelude.{ℕ, ◌+◌, ◌-◌, ◌*◌, ◌≤◌, ◌≡◌, refl, List, [], ◌∷◌, ◌++◌, length, replicate, Ok}
use Rattle.std.proofs.Common.{zero-le, sym, ap, ◌∙◌, ⊎_elim, arith, le-leb, length-append}
use Rattle.std.proofs.lemmas.List.{length-replicate}
use Rattle.sequences.specs.Choices.{taken, below_or_not}
use Rattle.sequences.specs.Parts.{part, put}
use Rattle.meaning.specs.Blocks.{Time, Block, Held, total}
use Rattle.meaning.specs.Results.{Result, record_of, record_size}
use Rattle.meaning.specs.Run.{held_for, held_after, named_flow}
use Rattle.meaning.specs.Records.{most_ordinates}
use Rattle.stack.specs.declared.Stack.{Stack}
use Rattle.stack.specs.View.{Fits, view, none_held, length_held}
use Rattle.stack.specs.Limits.{Within}
use Rattle.results.specs.Records.{Named, Each, each_more, records_in, no_records, record_more}
use Rattle.making.specs.Made.{HeldWithin}
use Rattle.telling.specs.declared.Closed.{Closed}
use Rattle.telling.specs.LastHeld.{view_last}
use Rattle.writing.specs.WrittenResult.{record_told, record_put, copied_first, copied_named}
use Rattle.closing.specs.ClosedBlock.{Keeps, Closes}
use Rattle.closing.specs.ToldResult.{result_of, told_record, told_flow}
use Rattle.closing.specs.NamedOrdinates.{named_last, ordinates_for, ordinates_given, none_named, not_yet_closed, copied_zeros, ordinates_more}

-- WHAT IS CARRIED under a time control whose ratio stands at a place, counted from 0. n ordinates and m bytes of records are lent; without room for the records so far
-- nothing is known of these.
pub record Carried (named place : ℕ) (τ : Time) (n m : ℕ) (rs : List Result) (ordinates records : List ℕ) : Type 0 where
  pub names : Each Named rs
  pub n-long : length ordinates ≡ n
  pub m-long : length records ≡ m
  pub flow : ordinates ≡ ordinates_for named τ.ordinates n rs
  pub told : record_size * length rs ≤ m → records ≡ records_in τ.ratio (place + 1) m rs

pub carried_none : (named place : ℕ) (τ : Time) (n m : ℕ) → Carried named place τ n m [] (replicate n 0) (replicate m 0)
carried_none named place τ n m =
    record {
      names = tt;
      n-long = length-replicate {A = ℕ} n 0;
      m-long = length-replicate {A = ℕ} m 0;
      flow = sym (⊎_elim (none_named named τ.ordinates n []) (λ some. not_yet_closed named τ.ordinates n [] (omega arith)) (below_or_not named 1));
      told = λ h. sym (no_records τ.ratio (place + 1) m);
    }

-- by a block that is closed and not refused, once its result is written
module _ {τ : Time} {b : Block} {s : Stack} {named place : ℕ} {n m : ℕ} (rs : List Result) {c : Closed} {w w' ordinates ordinates' records records' : List ℕ} where
  pub carried_more : Closes τ b s w (Ok c) w' → length b.name ≤ 6
      → ordinates' ≡ copied_named named (length rs) τ.ordinates (part (most_ordinates * (c.held.depth - 1)) τ.ordinates w') ordinates
      → records' ≡ record_put (length rs) (record_told b.name τ.ratio (place + 1) c) records
      → length ordinates' ≡ length ordinates → length records' ≡ length records → Carried named place τ n m rs ordinates records
      → Carried named place τ n m (rs ++ (result_of τ b s w ∷ [])) ordinates' records'
  carried_more closes short eo er lo lr so_far =
      let next = result_of τ b s w in
      let ratio = τ.ratio in
      let long : length (rs ++ (next ∷ [])) ≡ length rs + 1 = length-append rs (next ∷ []) in
      record {
        names = each_more Named rs next so_far.names short;
        n-long = lo ∙ so_far.n-long;
        m-long = lr ∙ so_far.m-long;
        flow =
            eo ∙ ap (λ (q : List ℕ). copied_named named (length rs) τ.ordinates q ordinates) (told_flow closes)
            ∙ ordinates_more named τ.ordinates n rs next so_far.n-long so_far.flow;
        told = λ room.
            er ∙ ap (λ (q : List ℕ). record_put (length rs) q records) (told_record closes ratio (place + 1))
            ∙ sym (taken _ (le-leb (record_size * length rs + record_size) (length records) (omega (arith, so_far.m-long))) refl)
            ∙ ap (λ (z : List ℕ). put (record_size * length rs) record_size z (record_of ratio (place + 1) next)) (so_far.told (omega arith))
            ∙ record_more ratio (place + 1) m rs next so_far.names short;
      }

-- at an accepted end: the named block's ordinates are there, or are those of the last block
module _ {named place : ℕ} {τ : Time} {n m : ℕ} {rs : List Result} {ordinates records : List ℕ} where
  pub carried-named : Carried named place τ n m rs ordinates records → 1 ≤ named → named ≤ length rs → τ.ordinates ≤ n
      → ordinates ≡ named_flow named rs ++ replicate (n - τ.ordinates) 0
  carried-named so_far some few room = so_far.flow ∙ ordinates_given named τ.ordinates n rs some few room

pub carried_last : {place : ℕ} (τ : Time) {n m : ℕ} (rs : List Result) (r : Result) {ordinates records : List ℕ} → Carried 0 place τ n m (rs ++ (r ∷ [])) ordinates records
    → τ.ordinates ≤ n → copied_first τ.ordinates r.held.flow ordinates ≡ named_flow 0 (rs ++ (r ∷ [])) ++ replicate (n - τ.ordinates) 0
carried_last τ {n} rs r so_far room =
    copied_zeros τ.ordinates n r.held.flow room so_far.n-long (so_far.flow ∙ none_named 0 τ.ordinates n (rs ++ (r ∷ [])) (omega arith)) ∙ rw (named_last rs r)

-- WHAT IS HELD after k blocks: each added at most one card's area
pub record HeldAfter (k : ℕ) (s : Stack) (nq : ℕ) (w : List ℕ) : Type 0 where
  pub fits : Fits s.depth nq (length w)
  pub flows : Within (view s nq w)
  pub areas : (total (view s nq w)).area ≤ 999_999 * k

pub held_none : (nq : ℕ) (w : List ℕ) → nq ≤ most_ordinates → 6_000 ≤ length w → HeldAfter 0 none_held nq w
held_none nq w few enough = record { fits = record { deep = zero-le; ordinates = few; enough = enough }; flows = tt; areas = zero-le }

pub held_more : (τ : Time) (b : Block) (k : ℕ) (s next : Stack) (w w' : List ℕ) → HeldAfter k s τ.ordinates w → length w' ≡ length w
    → Keeps τ b (view s τ.ordinates w) next w' → HeldAfter (k + 1) next τ.ordinates w'
held_more τ b k s next w w' before long keeps =
    record {
      fits = record { deep = keeps.deep; ordinates = before.fits.ordinates; enough = omega (arith, before.fits.enough) };
      flows = keeps.flows;
      areas = omega (arith, keeps.areas, before.areas);
    }

-- how many are held, and the flow of the last of them
module _ (τ : Time) (b : Block) (before : List Held) (next : Stack) (w : List ℕ) (keeps : Keeps τ b before next w) where
  pub depth-after : length (held_after τ b before) ≡ next.depth
  depth-after = sym (ap length keeps.held) ∙ length_held τ.ordinates next.areas next.depth w

  pub last_flow : part (most_ordinates * (next.depth - 1)) τ.ordinates w ≡ (held_for τ b before).flow
  last_flow = (view_last next τ.ordinates w keeps.held).flow

pub held-within : (k : ℕ) (s : Stack) (nq : ℕ) (w : List ℕ) → k ≤ 199 → HeldAfter k s nq w → HeldWithin s nq w
held-within k s nq w few h = record { fits = h.fits; flows = h.flows; areas = omega (arith, h.areas) }
