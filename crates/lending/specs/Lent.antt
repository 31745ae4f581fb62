-- What a round is lent: where the ordinates and the records begin that are its own.
--     ordinates_from    at the first where its ratio is wanted, or the last one is, 0; else behind the last
--     records_from      behind the records of the rounds before it, if there are such
--     zeros-part, zeros-drop, cleared_drop    that it is zeros
use Rattle.std.specs.Prelude.{ℕ, ◌+◌, ◌-◌, ◌≤◌, ◌<◌, ◌≡◌, Bool, true, false, ◌⊎◌, List, ◌++◌, length, take, drop, replicate}
use Rattle.std.proofs.Math.Path.{refl}
use Rattle.std.proofs.Common.{sym, ap, ◌∙◌, arith, take_at, drop_at, length-take-le}
use Rattle.std.proofs.Math.Logic.{⊎_elim}
use Rattle.std.proofs.lemmas.List.{length-replicate}
use borrow.Author.Tests.{lt-ltb, le-ltb, eq-eqb, ne_eqb}
use Rattle.sequences.specs.Choices.{below_or_not}
use Rattle.sequences.specs.Parts.{part, part_to_end}
use Rattle.sequences.specs.Zeros.{drop-replicate}
use Rattle.meaning.specs.Words.{◌=?◌, ◌<?◌, when◌then◌else◌}
use Rattle.meaning.specs.Run.{record_bytes}

unfoldable pub ordinates_from : (refused : Bool) (ratio place n : ℕ) → ℕ
ordinates_from refused ratio place n =
    when refused then n else
    when ratio =? 0 then 0 else
    when ratio =? (place + 1) then 0 else
    n

unfoldable pub records_from : (refused : Bool) (blocks place m : ℕ) → ℕ
records_from refused blocks place m =
    when refused then m else
    when record_bytes blocks place <? m then record_bytes blocks place else
    m

from_within : (r s t : Bool) (n : ℕ) → (when r then n else when s then 0 else when t then 0 else n) ≤ n
unfolding when◌then◌else◌
from_within true s t n = omega arith
from_within false true t n = omega arith
from_within false false true n = omega arith
from_within false false false n = omega arith

pub ordinates_within : (refused : Bool) (ratio place n : ℕ) → ordinates_from refused ratio place n ≤ n
unfolding ordinates_from
ordinates_within refused ratio place n = from_within refused (ratio =? 0) (ratio =? (place + 1)) n

module _ (ratio place n : ℕ) where
  -- all of them are lent
  pub ordinates-here : (ratio ≡ 0) ⊎ (ratio ≡ place + 1) → ordinates_from false ratio place n ≡ 0
  unfolding ordinates_from when◌then◌else◌
  ordinates-here h =
      ⊎_elim
      (λ (none : ratio ≡ 0). rw (eq-eqb ratio 0 none))
      (λ (this : ratio ≡ place + 1). rw (ne_eqb ratio 0 (λ z. omega arith), eq-eqb ratio (place + 1) this))
      h

  -- none is
  pub ordinates_else : 0 < ratio → ratio ≤ place → ordinates_from false ratio place n ≡ n
  unfolding ordinates_from when◌then◌else◌
  ordinates_else some below = rw (ne_eqb ratio 0 (λ z. omega arith), ne_eqb ratio (place + 1) (λ z. omega arith))

module _ (blocks place m : ℕ) where
  pub records-refused : records_from true blocks place m ≡ m
  unfolding records_from when◌then◌else◌
  records-refused = refl

  pub records_past : m ≤ record_bytes blocks place → records_from false blocks place m ≡ m
  unfolding records_from when◌then◌else◌
  records_past h = rw (le-ltb (record_bytes blocks place) m h)

  pub records_before : record_bytes blocks place < m → records_from false blocks place m ≡ record_bytes blocks place
  unfolding records_from when◌then◌else◌
  records_before h = rw (lt-ltb (record_bytes blocks place) m h)

  -- behind those of the rounds before, where there is room for these
  pub records-at : record_bytes blocks place ≤ m → records_from false blocks place m ≡ record_bytes blocks place
  records-at room =
      ⊎_elim
      (λ (h : record_bytes blocks place < m). records_before h)
      (λ (h : m ≤ record_bytes blocks place). let e : m ≡ record_bytes blocks place = omega arith in records_past h ∙ e)
      (below_or_not (record_bytes blocks place) m)

  -- how many are lent
  pub records-left : m - records_from false blocks place m ≡ m - record_bytes blocks place
  records-left =
      ⊎_elim
      (λ (h : record_bytes blocks place < m). rw (records_before h))
      (λ (h : m ≤ record_bytes blocks place). rw (records_past h) (omega arith))
      (below_or_not (record_bytes blocks place) m)

pub records_within : (refused : Bool) (blocks place m : ℕ) → records_from refused blocks place m ≤ m
records_within true blocks place m = rw (records-refused blocks place m) (omega arith)
records_within false blocks place m =
    ⊎_elim
    (λ (h : record_bytes blocks place < m). rw (records_before blocks place m h) (omega arith))
    (λ (h : m ≤ record_bytes blocks place). rw (records_past blocks place m h) (omega arith))
    (below_or_not (record_bytes blocks place) m)

-- WHAT IS LENT IS ZEROS: the part of a list from a place on
pub zeros-part : (a : ℕ) (xs : List ℕ) → drop a xs ≡ replicate (length xs - a) 0 → part a (length xs - a) xs ≡ replicate (length (part a (length xs - a) xs)) 0
zeros-part a xs e =
    let whole = part_to_end a xs ∙ e in
    whole ∙ ap (λ (k : ℕ). replicate k 0) (sym (ap length whole ∙ length-replicate {A = ℕ} (length xs - a) 0))

pub zeros-drop : (a : ℕ) (xs : List ℕ) → xs ≡ replicate (length xs) 0 → drop a xs ≡ replicate (length xs - a) 0
zeros-drop a xs e = ap (drop a) e ∙ drop-replicate a (length xs) 0

-- once they are cleared from that place on
pub cleared_drop : (a : ℕ) (xs ys : List ℕ) → a ≤ length xs → length ys ≡ length xs → ys ≡ take a xs ++ replicate (length xs - a) 0 → drop a ys ≡ replicate (length ys - a) 0
cleared_drop a xs ys h l e =
    ap (drop a) e ∙ drop_at (take a xs) (replicate (length xs - a) 0) a (length-take-le a xs h) ∙ ap (λ (k : ℕ). replicate (k - a) 0) (sym l)

pub cleared_take : (a : ℕ) (xs ys : List ℕ) → a ≤ length xs → ys ≡ take a xs ++ replicate (length xs - a) 0 → take a ys ≡ take a xs
cleared_take a xs ys h e = ap (take a) e ∙ take_at (take a xs) (replicate (length xs - a) 0) a (length-take-le a xs h)
