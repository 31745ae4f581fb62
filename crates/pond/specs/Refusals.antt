-- Refusal 19 as the code asks it: the counts, the first row, and then the rows behind it, one by one.
--     refused_unpaired, refused_short     unequal counts, and fewer than two pairs
--     refused_volume, refused_outflow     a first row with water, and with outflow
--     asked-behind                        with none of these, the rows behind the first are asked
--     asked                               all of it at once
--     rows_turn, rows_done                a row more, and none left
--     row_hundredths                      what is asked of a row is asked of hundredths
use Rattle.std.specs.Prelude.{ℕ, suc, ◌⊎◌, ◌+◌, ◌*◌, ◌≤◌, ◌<◌, ◌≡◌, Bool, true, false, ◌||◌, not, List, [], ◌∷◌, length, get_or, drop}
use Rattle.std.proofs.Math.Bool.{or-true}
use Rattle.std.proofs.Common.{inl, inr, ⊎_elim, mul_assoc, add-one, arith, drop_of_length-le, drop-cons, le-leb, lt-ltb, le-ltb, eq-eqb, ne_eqb}
use Rattle.std.proofs.lemmas.Bool.{lt-leb}
use Rattle.sequences.specs.Choices.{below_or_not}
use Rattle.meaning.specs.Words.{◌=?◌, ◌≤?◌, ◌<?◌}
use Rattle.meaning.specs.Pool.{pool_row, rows_of, row_breaks, rows_break, table_breaks}
use Rattle.pond.specs.Tables.{row_at, count_rows}

-- the counts' two tests
abbrev counts : (svs sqs : List ℕ) → Bool
counts svs sqs = (length (rows_of svs sqs) <? 2) || not (length svs =? length sqs)

pub refused_unpaired : (m : ℕ) (svs sqs : List ℕ) → (length svs ≡ length sqs → ⊥) → table_breaks m svs sqs ≡ true
unfolding table_breaks
refused_unpaired m svs sqs h = rw (ne_eqb (length svs) (length sqs) h, or-true (length (rows_of svs sqs) <? 2))

pub refused_short : (m : ℕ) (svs sqs : List ℕ) → length svs ≡ length sqs → length svs < 2 → table_breaks m svs sqs ≡ true
unfolding table_breaks
refused_short m svs sqs e h = rw (count_rows svs sqs e, lt-ltb (length svs) 2 h)

pub refused_volume : (m : ℕ) (svs sqs : List ℕ) → length svs ≡ length sqs → 2 ≤ length svs → (get_or svs 0 0 ≡ 0 → ⊥) → table_breaks m svs sqs ≡ true
unfolding table_breaks
refused_volume m [] sqs e two h = absurd (omega arith)
refused_volume m (sv ∷ svs) [] e two h = absurd (omega arith)
refused_volume m (sv ∷ svs) (sq ∷ sqs) e two h =
    let some : sv * 600_000 ≡ 0 → ⊥ = λ z. h (omega arith) in
    rw (ne_eqb (sv * 600_000) 0 some) (or-true (counts (sv ∷ svs) (sq ∷ sqs)))

pub refused_outflow : (m : ℕ) (svs sqs : List ℕ) → length svs ≡ length sqs → 2 ≤ length svs → (get_or sqs 0 0 ≡ 0 → ⊥) → table_breaks m svs sqs ≡ true
unfolding table_breaks
refused_outflow m [] sqs e two h = absurd (omega arith)
refused_outflow m (sv ∷ svs) [] e two h = absurd (omega arith)
refused_outflow m (sv ∷ svs) (sq ∷ sqs) e two h =
    let some : sq * 600_000 ≡ 0 → ⊥ = λ z. h (omega arith) in
    rw (ne_eqb (sq * 600_000) 0 some, or-true (not (sv * 600_000 =? 0))) (or-true (counts (sv ∷ svs) (sq ∷ sqs)))

pub asked-behind : (m : ℕ) (svs sqs : List ℕ) → length svs ≡ length sqs → 2 ≤ length svs → get_or svs 0 0 ≡ 0 → get_or sqs 0 0 ≡ 0
    → table_breaks m svs sqs ≡ rows_break m (pool_row 0 0) (rows_of (drop 1 svs) (drop 1 sqs))
unfolding table_breaks
asked-behind m [] sqs e two v q = absurd (omega arith)
asked-behind m (sv ∷ svs) [] e two v q = absurd (omega arith)
asked-behind m (sv ∷ svs) (sq ∷ sqs) e two v q =
    let more : 2 ≤ suc (length (rows_of svs sqs)) = omega (arith, count_rows (sv ∷ svs) (sq ∷ sqs) e) in
    rw (v, q, le-ltb (suc (length (rows_of svs sqs))) 2 more, eq-eqb (suc (length svs)) (suc (length sqs)) e)

same_or_not : (a b : ℕ) → (a ≡ b) ⊎ (a ≡ b → ⊥)
same_or_not a b =
    ⊎_elim
    (λ (h : a < b). inr (λ e. omega arith))
    (λ (h : b ≤ a). ⊎_elim (λ (k : b < a). inr (λ e. omega arith)) (λ (k : a ≤ b). inl (omega arith)) (below_or_not b a))
    (below_or_not a b)

-- all of it at once
pub asked : (m : ℕ) (svs sqs : List ℕ)
    → table_breaks m svs sqs
    ≡ (not (length svs =? length sqs) || (length svs <? 2) || not (get_or svs 0 0 =? 0) || not (get_or sqs 0 0 =? 0) || rows_break m (row_at svs sqs 0) (rows_of (drop 1 svs) (drop 1 sqs)))
asked m svs sqs =
    ⊎_elim
    (λ (e : length svs ≡ length sqs).
    ⊎_elim
    (λ (short : length svs < 2). rw (refused_short m svs sqs e short, eq-eqb (length svs) (length sqs) e, lt-ltb (length svs) 2 short))
    (λ (two : 2 ≤ length svs).
    ⊎_elim
    (λ (v : get_or svs 0 0 ≡ 0).
    ⊎_elim
    (λ (q : get_or sqs 0 0 ≡ 0). rw (asked-behind m svs sqs e two v q, eq-eqb (length svs) (length sqs) e, le-ltb (length svs) 2 two, v, q))
    (λ (q : get_or sqs 0 0 ≡ 0 → ⊥).
    rw (refused_outflow m svs sqs e two q, eq-eqb (length svs) (length sqs) e, le-ltb (length svs) 2 two, v, ne_eqb (get_or sqs 0 0) 0 q))
    (same_or_not (get_or sqs 0 0) 0))
    (λ (v : get_or svs 0 0 ≡ 0 → ⊥).
    rw (refused_volume m svs sqs e two v, eq-eqb (length svs) (length sqs) e, le-ltb (length svs) 2 two, ne_eqb (get_or svs 0 0) 0 v))
    (same_or_not (get_or svs 0 0) 0))
    (below_or_not (length svs) 2))
    (λ (apart : length svs ≡ length sqs → ⊥). rw (refused_unpaired m svs sqs apart, ne_eqb (length svs) (length sqs) apart))
    (same_or_not (length svs) (length sqs))

-- `broken`: whether the row at j breaks a rule
pub rows_turn : (m sv sq : ℕ) (svs sqs : List ℕ) (j : ℕ) (broken : Bool) → length svs ≡ length sqs → j < length svs
    → broken ≡ row_breaks m (pool_row sv sq) (pool_row (get_or svs j 0) (get_or sqs j 0))
    → (broken || rows_break m (pool_row (get_or svs j 0) (get_or sqs j 0)) (rows_of (drop (j + 1) svs) (drop (j + 1) sqs)))
    ≡ rows_break m (pool_row sv sq) (rows_of (drop j svs) (drop j sqs))
rows_turn m sv sq svs sqs j broken e h asked =
    let k : j < length sqs = omega arith in
    rw (asked, drop-cons svs j 0 h, drop-cons sqs j 0 k, add-one j)

pub rows_done : (m sv sq : ℕ) (svs sqs : List ℕ) (j : ℕ) → length svs ≤ j → rows_break m (pool_row sv sq) (rows_of (drop j svs) (drop j sqs)) ≡ false
rows_done m sv sq svs sqs j h = rw (drop_of_length-le svs h)

leb_times : (a b : ℕ) → (a * 600_000 ≤? b * 600_000) ≡ (a ≤? b)
leb_times a b =
    ⊎_elim
    (λ h. let k : b * 600_000 < a * 600_000 = omega arith in rw (lt-leb a b h, lt-leb (a * 600_000) (b * 600_000) k))
    (λ h. let k : a * 600_000 ≤ b * 600_000 = omega arith in rw (le-leb a b h, le-leb (a * 600_000) (b * 600_000) k))
    (below_or_not b a)

ltb_times : (a b : ℕ) → (a * 600_000 <? b * 600_000) ≡ (a <? b)
ltb_times a b =
    ⊎_elim
    (λ h. let k : a * 600_000 < b * 600_000 = omega arith in rw (lt-ltb a b h, lt-ltb (a * 600_000) (b * 600_000) k))
    (λ h. let k : b * 600_000 ≤ a * 600_000 = omega arith in rw (le-ltb a b h, le-ltb (a * 600_000) (b * 600_000) k))
    (below_or_not a b)

pub row_hundredths : (m sv sq sv' sq' : ℕ) → row_breaks m (pool_row sv sq) (pool_row sv' sq') ≡ ((sv' ≤? sv) || (sq' <? sq) || (1_452 * sv' <? m * sq'))
unfolding row_breaks
row_hundredths m sv sq sv' sq' =
    rw (← mul_assoc 1_452 sv' 600_000, ← mul_assoc m sq' 600_000, leb_times sv' sv, ltb_times sq' sq, ltb_times (1_452 * sv') (m * sq'))
