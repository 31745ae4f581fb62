-- The code's loop over ratios (specs/Loop.antt): where it begins, and what it keeps after another walk.
--     holds_more    what is kept after another walk
--     loop_first    where the loop stands after the first
use Rattle.std.specs.Prelude.{ℕ, suc, ◌+◌, ◌-◌, ◌*◌, ◌≤◌, ◌≡◌, List, [], ◌∷◌, ◌++◌, length, take, get_or, replicate}
use Rattle.std.proofs.Common.{sym, ap, subst, ◌∙◌, append_assoc, append-nil, mul-add, mul-one, arith, length-append, take_at}
use Rattle.meaning.specs.Blocks.{Time}
use Rattle.meaning.specs.Results.{Result, record_size}
use Rattle.meaning.specs.Run.{Only, Worked, worked_under, block_count, all_records, record_bytes}
use Rattle.passes.specs.Apart.{apart, ratio_count}
use Rattle.passes.proofs.Together.{together_apart}
use Rattle.passes.proofs.Walks.{count_some}
use Rattle.passes.specs.Alike.{Alike}
use Rattle.passes.proofs.Alike.{walks_alike}
use Rattle.passes.specs.Loop.{records_at, OrdinatesLent, WalkIs, Holds, HoldsOf, Stands, records_from, at_append, named_put}

all_append : (τ : Time) (k : ℕ) (rss : List (List Result)) (rs : List Result) → all_records τ k (rss ++ (rs ∷ [])) ≡ all_records τ k rss ++ records_at (k + length rss) τ rs
all_append τ k [] rs =
    let here : k + 0 ≡ k = omega arith in
    rw here (append-nil (records_at k τ rs))
all_append τ k (qs ∷ rss) rs =
    let on : k + 1 + length rss ≡ k + suc (length rss) = omega arith in
    rw (all_append τ (k + 1) rss rs, on) (sym (append_assoc (records_at k τ qs) (all_records τ (k + 1) rss) (records_at (k + suc (length rss)) τ rs)))

module _ (deck : List ℕ) (named ratio n m : ℕ) where
  -- ANOTHER WALK that came to its end: it has as many blocks and the same time control, and was lent the records from its own on, where there are such.
  module _ (k : ℕ) (τ : Time) (rss : List (List Result)) (ordinates records : List ℕ) (h : Holds deck named ratio n m k τ rss ordinates records) where
    abbrev b : ℕ
    b = block_count rss

    module _ (n' : ℕ) (σ : Time) (rs : List Result) (lent after lent-records records' : List ℕ) (w : WalkIs deck k named n' (m - records_from b k) σ rs lent lent-records)
        (kept : records_from b k ≤ m → records' ≡ take (records_from b k) records ++ lent-records) (put : OrdinatesLent ratio n k n' ordinates lent after) where
      alike : Alike deck τ σ (get_or rss 0 []) rs
      alike = walks_alike deck 0 k τ σ (get_or rss 0 []) rs h.first w.done

      walk : WalkIs deck k named n' (m - records_from b k) τ rs lent lent-records
      walk = subst (λ (ρ : Time). WalkIs deck k named n' (m - records_from b k) ρ rs lent lent-records) (sym alike.time) w

      more : all_records τ 0 (rss ++ (rs ∷ [])) ≡ all_records τ 0 rss ++ records_at k τ rs
      more =
          let last : 0 + length rss ≡ k = omega (arith, h.ratios) in
          rw last at (all_append τ 0 rss rs)

      begins : get_or (rss ++ (rs ∷ [])) 0 [] ≡ get_or rss 0 []
      begins = at_append rss rs [] 0 (omega (arith, h.some, h.ratios))

      one_more : b * (k + 1) ≡ b * k + b
      one_more = rw (mul-add b k 1, mul-one b)

      records_more : record_bytes b (k + 1) ≤ m → records' ≡ all_records τ 0 (rss ++ (rs ∷ [])) ++ replicate (m - record_bytes b (k + 1)) 0
      records_more room =
          let same = alike.blocks in
          let f : records_from b k ≤ m = omega (arith, one_more) in
          let g : record_size * length rs ≤ m - records_from b k = omega (arith, one_more) in
          let z : m - records_from b k - record_size * length rs ≡ m - record_bytes b (k + 1) = omega (arith, one_more) in
          kept f
          ∙ rw (h.told f, take_at (all_records τ 0 rss) (replicate (m - records_from b k) 0) (records_from b k) h.long, walk.told g, z, more)
          (sym (append_assoc (all_records τ 0 rss) (records_at k τ rs) (replicate (m - record_bytes b (k + 1)) 0)))

      pub holds_more : Holds deck named ratio n m (k + 1) τ (rss ++ (rs ∷ [])) after records'
      holds_more =
          let same = alike.blocks in
          record {
            some = omega arith;
            ratios = omega (arith, length-append rss (rs ∷ []), h.ratios);
            first = rw begins h.first;
            long = rw (begins, more) (omega (arith, length-append (all_records τ 0 rss) (records_at k τ rs), h.long, walk.long, one_more));
            told = rw begins records_more;
            flow =
                rw begins
                (λ (few : named ≤ b) (room : τ.ordinates ≤ n) (up : ratio ≤ k + 1).
                let few' : named ≤ length rs = omega arith in
                named_put deck named ratio n m k n' τ.ordinates rss rs ordinates lent after h.ratios room put (walk.flow few') (λ some. h.flow few room) up);
          }

  -- THE LOOP, whose variables are k and what was found. w is what the walk comes to.
  pub loop_first : (w : Worked) (ordinates records : List ℕ) → worked_under (Only 0) deck ≡ w → HoldsOf deck named ratio n m 1 w ordinates records
      → Stands deck named ratio n m 1 w ordinates records
  loop_first w ordinates records e h =
      record { up = count_some deck; walked = sym (together_apart deck ∙ ap (λ (v : Worked). apart deck v 1 (ratio_count deck - 1)) e); holds = h }
