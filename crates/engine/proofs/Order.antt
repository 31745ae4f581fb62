-- POINT 3 OF THE PROGRAM: of two calls of `run`, whose answers and contents meet its `ensures` line, on decks that draw one network: what `order_does_not_matter` says
-- of the two outcomes it says of what these calls gave, ratio by ratio.
use Prim.Native.Nat.{ℕ, ◌≤◌}
use mathlib.Core.Path.{◌≡◌, refl, sym, ap, ◌∙◌}
use mathlib.Core.List.{List}
use lib.ListN.{length}
use contract.Lifetimes.{Lfts}
use borrow.Fn.Kinds.{Dens}
use Rattle.sequences.specs.OneOutcome.{Result, Left}
use Rattle.meaning.specs.Blocks.{Time, Block}
use Rattle.meaning.specs.Run.{Outcome, Lent, deck_size}
use Rattle.meaning.specs.Run as run
use Rattle.network.specs.Network.{network_of}
use Rattle.network.specs.Order.{PairOff, said, Sound, Enough}
use Rattle.network.specs.Point3.{OrderFree}
use Rattle.network.proofs.Point3.{order_does_not_matter}
use Rattle.answers.specs.Answers.{accepted_as, outcome_is, lent_as}
use Rattle.engine.proofs.run.Kinds as kinds
use Rattle.engine.proofs.run.Reads as says

-- a call: its arguments, what was lent to it, and what came back: the answer, work, ordinates and records
module _ (κs : Lfts 4) (a : Dens κs kinds.ps) where
  abbrev pub deck : List ℕ
  deck = a.0.now

  abbrev pub named : ℕ
  named = a.1.0

  abbrev pub ratio : ℕ
  ratio = a.1.1.0

  abbrev pub lent : Lent
  lent = lent_as a.1.1.1.0.now a.1.1.1.1.0.now a.1.1.1.1.1.0.now

abbrev pub gave : (κs : Lfts 4) → Result kinds.ps kinds.r κs → Left kinds.ps kinds.r κs → Outcome
gave κs x e = outcome_is x e.1.1.1.0.now e.1.1.1.1.0.now e.1.1.1.1.1.0.now

pub runs_in_any_order : (κs λs : Lfts 4) (a : Dens κs kinds.ps) (b : Dens λs kinds.ps) (x : Result kinds.ps kinds.r κs) (y : Result kinds.ps kinds.r λs)
    (e : Left kinds.ps kinds.r κs) (f : Left kinds.ps kinds.r λs) (τ : Time) (bs cs : List Block) (nq blocks ratios : ℕ)
    → says.Post κs a x e
    → says.Post λs b y f
    → said (deck κs a) ≡ Sound τ bs
    → said (deck λs b) ≡ Sound τ cs
    → PairOff (network_of bs) (network_of cs)
    → x ≡ accepted_as nq blocks ratios
    → length (deck λs b) ≤ deck_size
    → Enough τ cs (named λs b) (ratio λs b) (lent λs b)
    → OrderFree τ bs cs (named κs a) (ratio κs a) (named λs b) (ratio λs b) (lent κs a) (lent λs b) (gave κs x e) (gave λs y f)
runs_in_any_order κs λs a b x y e f τ bs cs nq blocks ratios p q sound₁ sound₂ pairs accepted short room =
    let answer : (gave κs x e).answer ≡ run.Accepted nq blocks ratios = rw accepted in
    let first = sym (ap (λ (o : Outcome). o.answer) p) ∙ answer in
    rw (p, q)
    (order_does_not_matter (deck κs a) (deck λs b) (named κs a) (ratio κs a) (named λs b) (ratio λs b) (lent κs a) (lent λs b) τ τ bs cs nq blocks ratios sound₁ sound₂ refl pairs first short room)
