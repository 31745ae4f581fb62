-- How a list of blocks draws a network (specs/Drawing.antt).
--     closings-every    in deck order the blocks, each with its branches as it closes, are every block of the network, so the stack leaves no trace
--     each_before   what holds all over a network held before it was drawn on
use Rattle.std.specs.Prelude.{◌≡◌, refl, List, [], ◌∷◌, ℕ, zero, suc, ◌+◌, length}
use Rattle.std.proofs.Common.{sym, ap, ◌∙◌, arith}
use Rattle.meaning.specs.Blocks.{Block, takes}
use Rattle.network.specs.Network.{Nets, none, net, ◌beside◌, every, last, all_but, joined, drawn}
use Rattle.network.specs.Pairing.{size, Each, beside_none, beside_assoc, every-beside}
use Rattle.network.specs.Drawing.{closings}

last_all_but : (n : ℕ) (s : Nets) → last n s beside all_but n s ≡ s
last_all_but zero s = refl
last_all_but (suc n) none = refl
last_all_but (suc n) (net b bs s) = ap (net b bs) (last_all_but n s)

pub closings-every : (bs : List Block) (s : Nets) → every s beside closings bs s ≡ every (drawn bs s)
closings-every [] s = beside_none (every s)
closings-every (b ∷ bs) s =
    let n = takes b in
    let e : every s ≡ every (all_but n s) beside every (last n s) = ap every (sym (last_all_but n s)) ∙ every-beside (last n s) (all_but n s) in
    let a : every s beside closings (b ∷ bs) s ≡ every (joined b s) beside closings bs (joined b s) = rw e (simp beside_assoc) in
    a ∙ closings-every bs (joined b s)

size_apart : (n : ℕ) (s : Nets) → size (last n s) + size (all_but n s) ≡ size s
size_apart zero s = omega arith
size_apart (suc n) none = refl
size_apart (suc n) (net b bs s) = omega (arith, size_apart n s)

pub size-drawn : (bs : List Block) (s : Nets) → size (drawn bs s) ≡ size s + length bs
size-drawn [] s = omega arith
size-drawn (b ∷ bs) s = omega (arith, size-drawn bs (joined b s), size_apart (takes b) s)

module _ (P : Block → Nets → Type 0) where
  each_last : (n : ℕ) (s : Nets) → Each P s → Each P (last n s)
  each_last zero s f = tt
  each_last (suc n) none f = tt
  each_last (suc n) (net b bs s) f = (f.0, f.1, each_last n s f.2)

  each_all_but : (n : ℕ) (s : Nets) → Each P s → Each P (all_but n s)
  each_all_but zero s f = f
  each_all_but (suc n) none f = tt
  each_all_but (suc n) (net b bs s) f = each_all_but n s f.2

  each_whole : (n : ℕ) (s : Nets) → Each P (last n s) → Each P (all_but n s) → Each P s
  each_whole zero s f g = g
  each_whole (suc n) none f g = tt
  each_whole (suc n) (net b bs s) f g = (f.0, f.1, each_whole n s f.2 g)

  pub each_joined : (b : Block) (s : Nets) → P b (last (takes b) s) → Each P s → Each P (joined b s)
  each_joined b s p f = (p, each_last (takes b) s f, each_all_but (takes b) s f)

  pub each_before : (bs : List Block) (s : Nets) → Each P (drawn bs s) → Each P s
  each_before [] s f = f
  each_before (b ∷ bs) s f =
      let g = each_before bs (joined b s) f in
      each_whole (takes b) s g.1 g.2
