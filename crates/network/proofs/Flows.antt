-- What is held for a block depends on the sum of its branches, and a sum does not look at their order. Nothing here looks inside `made`.
--     total_same      networks that pair off bring the same in all
--     makes_same      a block whose branches pair off makes the same of them
--     results_same    their last blocks have the same hydrographs
--     fit_all_same    where the one network has only fit blocks, so has the other
use Rattle.std.specs.Prelude.{◌≡◌, refl}
use Rattle.std.proofs.Common.{ap, ◌∙◌}
use mathlib.Core.List.{List, Permᴰ}
use Rattle.std.proofs.Math.Nat.{add_left_comm}
use Rattle.meaning.specs.Blocks.{Time, Block, Held, both, total, made}
use Rattle.meaning.specs.Results.{Result}
use Rattle.sequences.specs.Adding.{plus_turn}
use Rattle.network.specs.Network.{Nets, makes, hydrographs, results_of}
use Rattle.network.specs.Pairing.{Same, both_none, paired, swapped, chained, count_same, Each, each_same}
use Rattle.network.specs.Flows.{Fit}

both_equal : {f g h k : Held} → f ≡ g → h ≡ k → both f h ≡ both g k
both_equal d e = rw (d, e)

both_turn : (f g h : Held) → both f (both g h) ≡ both g (both f h)
both_turn f g h = rw (add_left_comm f.area g.area h.area, plus_turn f.flow g.flow h.flow)

module _ (τ : Time) where
  -- Of what is brought to a block only the sum counts.
  by_sum : (b : Block) (hs ks : List Held) → total hs ≡ total ks → makes τ b hs ≡ makes τ b ks
  by_sum b hs ks e = ap (made τ b) e

  pub total_same : {s t : Nets} → Same s t → total (hydrographs τ s) ≡ total (hydrographs τ t)
  total_same both_none = refl
  total_same (paired {b} {bs} {cs} p q) = both_equal (by_sum b (hydrographs τ bs) (hydrographs τ cs) (total_same p)) (total_same q)
  total_same (swapped {b} {c} {bs} {cs} {s}) =
      both_turn (makes τ b (hydrographs τ bs)) (makes τ c (hydrographs τ cs)) (total (hydrographs τ s))
  total_same (chained p q) = total_same p ∙ total_same q

  pub makes_same : (b : Block) {bs cs : Nets} → Same bs cs → makes τ b (hydrographs τ bs) ≡ makes τ b (hydrographs τ cs)
  makes_same b {bs} {cs} p = by_sum b (hydrographs τ bs) (hydrographs τ cs) (total_same p)

  abbrev result_of : Block → Nets → Result
  result_of b bs = record { block = b; held = makes τ b (hydrographs τ bs) }

  result_same : (b : Block) {bs cs : Nets} → Same bs cs → result_of b bs ≡ result_of b cs
  result_same b p = rw (makes_same b p)

  pub results_same : {s t : Nets} → Same s t → Permᴰ (results_of τ s) (results_of τ t)
  results_same both_none = Permᴰ.nil
  results_same (paired {b} p q) = Permᴰ.cons (result_same b p) (results_same q)
  results_same swapped = Permᴰ.swap refl refl
  results_same (chained p q) = Permᴰ.trans (results_same p) (results_same q)

  fit_same : (b : Block) (bs cs : Nets) → Same bs cs → Fit τ b bs → Fit τ b cs
  fit_same b bs cs p f =
      record {
        kind = f.kind;
        patterned = f.patterned;
        branches = rw (count_same p) at f.branches;
        sound = f.sound;
        flow = rw (total_same p) at f.flow;
      }

  pub fit_all_same : {s t : Nets} → Same s t → Each (Fit τ) s → Each (Fit τ) t
  fit_all_same p f = each_same fit_same p f
