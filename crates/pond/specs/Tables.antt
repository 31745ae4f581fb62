-- A pond's table that 19 does not refuse, and what its rules give.
--     TableWithin            as many values of SV as of SQ, within the limits of their cards
--     PondTable              the table, of values within the limits of their cards and at most 20 rows; two_rows, paired, ruled: 19's three parts
--     Follows                a row behind another one: V and W rise, Q does not fall, and 2M·Q is at most W (follows: by the rules)
--     Kept                   rows from one on that keep the rules; kept_next and kept-rest take the next one off
--     rules_kept             all rows keep them, and W of the first is 0
--     row_in, row_at           a row by its place, in the rows and from what SV and SQ list: row-at, count_rows
--     first_w, rows_follow   W of a table's first row is 0, and each other row follows the one before it
use Rattle.std.specs.Prelude.{ℕ, zero, suc, ◌+◌, ◌*◌, ◌≤◌, ◌<◌, ◌≡◌, refl, false, ◌||◌, List, [], ◌∷◌, get_or}
use Rattle.std.proofs.Common.{ap, mul-zero, mul-le-mul_left, add-one, arith}
use Rattle.std.proofs.Math.Bool.{not}
use Rattle.std.proofs.Math.ListN.{length}
use borrow.Author.Tests.{ltb-false, leb-false, eqb-true, not-false}
use Rattle.sequences.specs.Bounds.{AllUpTo}
use Rattle.sequences.specs.Choices.{both_fail}
use Rattle.meaning.specs.Words.{◌=?◌, ◌≤?◌, ◌<?◌}
use Rattle.meaning.specs.Pool.{PoolRow, pool_row, rows_of, w_of, starts_elsewhere, row_breaks, rows_break, rules_break, table_breaks}

pub record TableWithin (m : ℕ) (svs sqs : List ℕ) : Type 0 where
  pub minutes : m ≤ 1_440
  pub volumes_up : AllUpTo 9_999_999 svs
  pub outflows_up : AllUpTo 10_000_000 sqs
  pub paired : length svs ≡ length sqs

pub record PondTable (m : ℕ) (svs sqs : List ℕ) : Type 0 where
  pub minutes : m ≤ 1_440
  pub volumes_up : AllUpTo 9_999_999 svs
  pub outflows_up : AllUpTo 10_000_000 sqs
  pub few : length svs ≤ 20
  pub whole : table_breaks m svs sqs ≡ false

module _ (m : ℕ) (svs sqs : List ℕ) (t : PondTable m svs sqs) where
  parts : (2 ≤ length (rows_of svs sqs)) × (length svs ≡ length sqs) × (rules_break m (rows_of svs sqs) ≡ false)
  unfolding table_breaks
  parts =
      let apart = both_fail ((length (rows_of svs sqs) <? 2) || not (length svs =? length sqs)) (rules_break m (rows_of svs sqs)) t.whole in
      let counts = both_fail (length (rows_of svs sqs) <? 2) (not (length svs =? length sqs)) apart.0 in
      (ltb-false (length (rows_of svs sqs)) 2 counts.0, eqb-true (length svs) (length sqs) (not-false _ counts.1), apart.1)

  pub two_rows : 2 ≤ length (rows_of svs sqs)
  two_rows = parts.0

  pub paired : length svs ≡ length sqs
  paired = parts.1

  pub ruled : rules_break m (rows_of svs sqs) ≡ false
  ruled = parts.2

pub record Follows (m : ℕ) (row next : PoolRow) : Type 0 where
  pub fills : row.v < next.v
  pub rises : w_of m row < w_of m next
  pub grows : row.q ≤ next.q
  pub holds : 2 * m * next.q ≤ w_of m next

pub follows : (m : ℕ) (row next : PoolRow) → row_breaks m row next ≡ false → Follows m row next
unfolding row_breaks w_of
follows m row next e =
    let apart = both_fail ((next.v ≤? row.v) || (next.q <? row.q)) (1_452 * next.v <? m * next.q) e in
    let both = both_fail (next.v ≤? row.v) (next.q <? row.q) apart.0 in
    let v : row.v < next.v = leb-false next.v row.v both.0 in
    let q : row.q ≤ next.q = ltb-false next.q row.q both.1 in
    let held : m * next.q ≤ 1_452 * next.v = ltb-false (1_452 * next.v) (m * next.q) apart.1 in
    let more : m * row.q ≤ m * next.q = mul-le-mul_left m q in
    record { fills = v; rises = omega arith; grows = q; holds = omega arith }

pub record Kept (m : ℕ) (row : PoolRow) (rows : List PoolRow) : Type 0 where
  pub held : 2 * m * row.q ≤ w_of m row
  pub rules : rows_break m row rows ≡ false

module _ (m : ℕ) (row next : PoolRow) (rows : List PoolRow) (k : Kept m row (next ∷ rows)) where
  pub kept_next : Follows m row next
  kept_next = follows m row next (both_fail (row_breaks m row next) (rows_break m next rows) k.rules).0

  pub kept-rest : Kept m next rows
  kept-rest = record { held = kept_next.holds; rules = (both_fail (row_breaks m row next) (rows_break m next rows) k.rules).1 }

pub rules_kept : (m : ℕ) (row : PoolRow) (rows : List PoolRow) → rules_break m (row ∷ rows) ≡ false → (w_of m row ≡ 0) × Kept m row rows
unfolding w_of
rules_kept m row rows e =
    let apart = both_fail (starts_elsewhere row) (rows_break m row rows) e in
    let start = both_fail (not (row.v =? 0)) (not (row.q =? 0)) apart.0 in
    let v : row.v ≡ 0 = eqb-true row.v 0 (not-false _ start.0) in
    let q : row.q ≡ 0 = eqb-true row.q 0 (not-false _ start.1) in
    let one : m * row.q ≡ 0 = rw q (mul-zero m) in
    let two : 2 * m * row.q ≡ 0 = rw q (mul-zero (2 * m)) in
    (omega arith, record { held = omega arith; rules = apart.1 })

abbrev pub row_in : List PoolRow → ℕ → PoolRow
row_in rows j = get_or rows j (pool_row 0 0)

abbrev pub row_at : (svs sqs : List ℕ) → ℕ → PoolRow
row_at svs sqs j = pool_row (get_or svs j 0) (get_or sqs j 0)

pub row-at : (svs sqs : List ℕ) → length svs ≡ length sqs → (j : ℕ) → row_in (rows_of svs sqs) j ≡ row_at svs sqs j
row-at [] [] e j = refl
row-at [] (sq ∷ sqs) e j = absurd (omega arith)
row-at (sv ∷ svs) [] e j = absurd (omega arith)
row-at (sv ∷ svs) (sq ∷ sqs) e zero = refl
row-at (sv ∷ svs) (sq ∷ sqs) e (suc j) = row-at svs sqs (omega arith) j

pub count_rows : (svs sqs : List ℕ) → length svs ≡ length sqs → length (rows_of svs sqs) ≡ length svs
count_rows [] sqs e = refl
count_rows (sv ∷ svs) [] e = absurd (omega arith)
count_rows (sv ∷ svs) (sq ∷ sqs) e = ap suc (count_rows svs sqs (omega arith))

starts : (m : ℕ) (rows : List PoolRow) → rules_break m rows ≡ false → w_of m (row_in rows 0) ≡ 0
unfolding w_of
starts m [] e = omega (arith, mul-zero m)
starts m (row ∷ rows) e = (rules_kept m row rows e).0

pub first_w : (m : ℕ) (svs sqs : List ℕ) → PondTable m svs sqs → w_of m (row_at svs sqs 0) ≡ 0
first_w m svs sqs t = rw (← row-at svs sqs (paired m svs sqs t) 0) (starts m (rows_of svs sqs) (ruled m svs sqs t))

on_follows : (m : ℕ) (row : PoolRow) (rows : List PoolRow) → Kept m row rows → (j : ℕ) → suc j < length (row ∷ rows)
    → Follows m (row_in (row ∷ rows) j) (row_in (row ∷ rows) (suc j))
on_follows m row [] k j h = absurd (omega arith)
on_follows m row (next ∷ rows) k zero h = kept_next m row next rows k
on_follows m row (next ∷ rows) k (suc j) h = on_follows m next rows (kept-rest m row next rows k) j (omega arith)

all_follow : (m : ℕ) (rows : List PoolRow) → rules_break m rows ≡ false → (j : ℕ) → suc j < length rows → Follows m (row_in rows j) (row_in rows (suc j))
all_follow m [] e j h = absurd (omega arith)
all_follow m (row ∷ rows) e j h = on_follows m row rows (rules_kept m row rows e).1 j h

pub rows_follow : (m : ℕ) (svs sqs : List ℕ) → PondTable m svs sqs → (j : ℕ) → j + 1 < length svs → Follows m (row_at svs sqs j) (row_at svs sqs (j + 1))
rows_follow m svs sqs t j h =
    let pairs = paired m svs sqs t in
    let inside : suc j < length (rows_of svs sqs) = omega (arith, count_rows svs sqs pairs) in
    rw (add-one j, ← row-at svs sqs pairs j, ← row-at svs sqs pairs (suc j)) (all_follow m (rows_of svs sqs) (ruled m svs sqs t) j inside)
