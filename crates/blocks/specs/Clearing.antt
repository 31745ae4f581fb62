-- The heads set to 0, one after the other: no record is there.
use Rattle.std.specs.Prelude.{ℕ, zero, suc, ◌+◌, ◌≤◌, ◌<◌, ◌≡◌, refl, Bool, true, false, List, [], ◌∷◌, map, length, get_or, set, replicate}
use Rattle.std.proofs.Common.{zero-le, ◌∙◌, ap, arith, eqb-true, get_or-set_same, get_or-set_other, ⊎_elim}
use Rattle.std.proofs.lemmas.Bool.{eqb-false}
use Rattle.std.proofs.Math.ListN.{get_or-eq_default}
use Rattle.sequences.specs.Choices.{below_or_not}
use Rattle.meaning.specs.Words.{◌=?◌}
use Rattle.meaning.specs.Records.{table, Item, row_of, most_ordinates}
use Rattle.meaning.specs.Blocks.{Card, Absent, opened}
use Rattle.records.specs.Rows.{items, most_in, start, words_of}
use Rattle.blocks.specs.Regions.{regions-set}
use Rattle.blocks.specs.Cards.{regions, region_of, head_in, card_in, block_of, Counted}
use Rattle.blocks.specs.Taking.{named, all_regions}

-- the records below a place are not there
abbrev pub Clear : ℕ → List ℕ → Type 0
Clear n w = (p : ℕ) → p < n → head_in (region_of p w) ≡ 0

set_region : (item : Item) (w : List ℕ) (v : ℕ) → item < items → regions (set w (start item) v) ≡ set (regions w) item (set (region_of item w) 0 v)
unfolding regions start
set_region item w v h = regions-set table item w v h

pub clear_next : (item : Item) (w : List ℕ) → item < items → Clear item w → Clear (item + 1) (set w (start item) 0)
clear_next item w inside all p h = rw (set_region item w 0 inside) (go (p =? item) refl)
  where
    zeroed : (r : List ℕ) → head_in (set r 0 0) ≡ 0
    zeroed [] = refl
    zeroed (x ∷ r) = refl

    go : (t : Bool) → (p =? item) ≡ t → head_in (get_or (set (regions w) item (set (region_of item w) 0 0)) p []) ≡ 0
    go true e =
        let k : item < length (regions w) = rw (all_regions w) inside in
        rw (eqb-true p item e, get_or-set_same (regions w) item (set (region_of item w) 0 0) [] k) (zeroed (region_of item w))
    go false e =
        let ne = eqb-false p item e in
        rw (get_or-set_other (regions w) item p (set (region_of item w) 0 0) [] ne) (all p (omega (arith, ne)))

absent_in : (r : List ℕ) → head_in r ≡ 0 → card_in r ≡ Absent
absent_in [] e = refl
absent_in (zero ∷ r) e = refl
absent_in (suc n ∷ r) e = absurd (omega arith)

all_absent : (rs : List (List ℕ)) → ((p : ℕ) → p < length rs → head_in (get_or rs p []) ≡ 0) → map card_in rs ≡ replicate (length rs) Absent
all_absent [] h = refl
all_absent (r ∷ rs) h =
    rw (absent_in r (h 0 (omega arith))) (ap (λ (cs : List Card). Absent ∷ cs) (all_absent rs (λ (p : ℕ) (k : p < length rs). h (suc p) (omega arith))))

module _ (w : List ℕ) (all : Clear items w) where
  pub clear-block : (name : List ℕ) → block_of name w ≡ opened name
  clear-block name =
      ap (named name) (all_absent (regions w) (λ (p : ℕ) (h : p < length (regions w)). all p (rw (all_regions w) at h)) ∙ ap (λ (n : ℕ). replicate n Absent) (all_regions w))

  pub clear_kept : (nq : ℕ) → nq ≤ most_ordinates → words_of table ≤ length w → Counted nq w
  clear_kept nq few long = record { few = few; long = long; heads = low }
    where
      low : (p : ℕ) → head_in (region_of p w) ≤ suc (most_in (row_of p) nq)
      low p =
          ⊎_elim
          (λ h. rw (all p h) zero-le)
          (λ h. let k : length (regions w) ≤ p = rw (all_regions w) h in rw (get_or-eq_default (regions w) [] k) zero-le)
          (below_or_not p items)
