-- `runoff::run_off_storm` meets its contract: what runs off is the excess of the intervals with a rain listed, and the others have none.
use Prim.Native.Nat.{ℕ, ◌-◌, ◌≤◌, min}
use mathlib.Core.Path.{◌≡◌, sym, ap, ◌∙◌}
use mathlib.Core.List.{List, ◌++◌}
use native.Mathlib.Omega.{arith}
use borrow.Author.Rules.{rules}
use lib.ListN.{length, take, drop, length-append, length-drop, length-replicate, replicate}
use lib.Seq.{length-take-le, take_at}
use Rattle.sequences.specs.Parts.{part, put}
use Rattle.meaning.specs.Water.{rain_of}
use Rattle.excess.specs.declared.Storm.{Storm}
use Rattle.excess.specs.Storms.{storm_excess}
use Rattle.runoff.specs.Listed.{length-listed, listed_up, listed_runoff, zeros_through}
use Rattle.runoff.proofs.run_off_storm.Goals as goal

-- the words of the intervals that have a rain listed, taken from all the words lent
module _ (rains excess words : List ℕ) (storm : Storm) (listed : ℕ) (made : excess ≡ storm_excess storm (rain_of rains listed)) where
  taken : take listed (excess ++ drop listed words) ≡ excess
  taken = take_at excess (drop listed words) listed (length-listed rains excess storm listed made)

made_of : (rains q excess : List ℕ) (storm : Storm) (listed : ℕ) → listed ≤ length q
    → excess ≡ storm_excess storm (rain_of rains (length (take listed q))) → excess ≡ storm_excess storm (rain_of rains listed)
made_of rains q excess storm listed within e = e ∙ ap (λ (n : ℕ). storm_excess storm (rain_of rains n)) (length-take-le listed q within)

long_of : (q front : List ℕ) (listed : ℕ) → listed ≤ length q → front ≡ replicate (length (take listed q)) 0 → length (front ++ drop listed q) ≡ length q
long_of q front listed within zeros =
    let first : length front ≡ listed = ap length zeros ∙ length-replicate (length (take listed q)) 0 ∙ length-take-le listed q within in
    simp (length-append, length-drop) (omega (arith, first, within))

pub run_off-requires-clause-all_up_to : goal.run_off-requires-clause-all_up_to
run_off-requires-clause-all_up_to c =
    let x = c.args in
    let w = c.requires.storm_within in
    let made = made_of x.rains.now x.q.now c.list_excess.new.words x.storm c.min-listed.result (omega arith) c.list_excess.ensures.0 in
    (w.units_up, rw (taken x.rains.now c.list_excess.new.words x.words.now x.storm c.min-listed.result made) (listed_up x.rains.now c.list_excess.new.words x.storm c.min-listed.result made w.total_up w.ratio_up w.rains_up))

pub run_off-requires-clause-q_value : goal.run_off-requires-clause-q_value
run_off-requires-clause-q_value c =
    let q = c.args.q.now in
    let listed = c.min-listed.result in
    let front = c.list_excess.new.q in
    let whole = front ++ drop listed q in
    let filled = c.zero_words.ensures in
    let zeros = zeros_through q front c.zero_words.new.s listed (omega arith) c.list_excess.ensures.1 filled in
    zeros ∙ ap (λ (n : ℕ). replicate n 0) (sym (ap length zeros ∙ length-replicate (length whole) 0))

pub returns : goal.returns
returns c =
    let x = c.args in
    let q = x.q.now in
    let listed = c.min-listed.result in
    let front = c.list_excess.new.q in
    let whole = front ++ drop listed q in
    let excess = c.list_excess.new.words in
    let within : listed ≤ length q = omega arith in
    let least : listed ≡ min (length x.rains.now) (length q) = omega arith in
    let filled = c.zero_words.ensures in
    let zeros = zeros_through q front c.zero_words.new.s listed within c.list_excess.ensures.1 filled in
    let same : length (put listed (length whole - listed) whole c.zero_words.new.s) ≡ length q =
    ap length zeros ∙ length-replicate (length whole) 0 ∙ long_of q front listed within c.list_excess.ensures.1 in
    let made = made_of x.rains.now q excess x.storm listed within c.list_excess.ensures.0 in
    c.run_off.ensures
    ∙ rw (taken x.rains.now excess x.words.now x.storm listed made, same)
    (listed_runoff x.rains.now excess x.storm listed made (length q) least x.units.now)
