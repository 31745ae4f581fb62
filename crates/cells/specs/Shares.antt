-- Where a share falls, and that the share by an interval's excess is that of the definitions.
--     share_before, share-behind    none falls before the interval, nor behind its last unit ordinate
--     share-falls                   between these one does
--     share-text                    by the excess of the interval, it is the share of the sheet
use Rattle.std.specs.Prelude.{ℕ, ◌-◌, ◌*◌, ◌≤◌, ◌<◌, ◌≡◌, List, [], length, get_or}
use Rattle.std.proofs.Common.{⊎_elim, arith}
use borrow.Author.Tests.{lt-ltb, le-ltb, le-leb, lt-leb}
use Rattle.sequences.specs.Choices.{below_or_not}
use Rattle.meaning.specs.Words.{when◌then◌else◌}
use Rattle.meaning.specs.Sheet.{Measure, Sheet, flow_text, share_text}
use Rattle.cells.specs.Cells.{share_by}

module _ (m : Measure) (units : List ℕ) (excess k i : ℕ) where
  pub share_before : i < k → share_by m units excess k i ≡ []
  unfolding share_by when◌then◌else◌
  share_before early = rw (lt-leb k i early)

  pub share-behind : k ≤ i → length units ≤ i - k → share_by m units excess k i ≡ []
  unfolding share_by when◌then◌else◌
  share-behind there late = rw (le-leb k i there, le-ltb (i - k) (length units) late)

  pub share-falls : k ≤ i → i - k < length units → share_by m units excess k i ≡ flow_text m (get_or units (i - k) 0 * excess)
  unfolding share_by when◌then◌else◌
  share-falls there within = rw (le-leb k i there, lt-ltb (i - k) (length units) within)

-- the excess that an ordinate of the unit hydrograph meets is the interval's
pub share-text : (m : Measure) (s : Sheet) (k i : ℕ) → share_text m s k i ≡ share_by m s.units (get_or s.excesses k 0) k i
unfolding share_by when◌then◌else◌
share-text m s k i =
    ⊎_elim
    (λ (early : i < k). rw (lt-leb k i early))
    (λ (there : k ≤ i). let own : i - (i - k) ≡ k = omega arith in rw own)
    (below_or_not i k)
