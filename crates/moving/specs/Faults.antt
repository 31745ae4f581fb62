-- What a file is refused for by its records, and the passes that find it.
--     new_faults                    2: of records that are to become new
--     old_faults                    2 and 3: of records that are to become old
--     fault_after                   of the records that are left, where that refusal, or none, was noted in those before
--     fault_stops, fault_goes      a record that the pass ends at, and one that it goes on from
--     first_some                   of two refusals the first, where it is one
--     filled_stops, filled_goes, filled_ends      the pass over an old file, at a place
--     pass_starts, pass_stops, pass_goes, pass_ends     the pass over a new file, at a place
use Rattle.std.specs.Prelude.{ℕ, zero, suc, ◌+◌, ◌≤◌, ◌<◌, ◌≡◌, Bool, ◌||◌, List, ◌∷◌, length, drop}
use Rattle.std.proofs.Math.Path.{refl, ap}
use Rattle.std.proofs.Common.{sym, ◌∙◌, arith}
use Rattle.std.proofs.Math.Bool.{true, false}
use Rattle.meaning.specs.Words.{met, first}
use Rattle.meaning.specs.Results.{record_size, old_record_size}
use Rattle.meaning.specs.Moving.{old_padding, new_padding, records_in, filled, any_filled, other_ratio, any_other}
use Rattle.sequences.specs.Parts.{part}
use Rattle.sequences.specs.Refusals.{none_after}
use Rattle.moving.specs.Records.{records_more, records_none}
use Rattle.forms.specs.Fault.{fault_of}

abbrev pub new_faults : List (List ℕ) → ℕ
new_faults rs = met (any_filled old_padding rs) 2

abbrev pub old_faults : List (List ℕ) → ℕ
old_faults rs = first (met (any_filled new_padding rs) 2) (met (any_other rs) 3)

abbrev pub fault_after : (found : ℕ) → List (List ℕ) → ℕ
fault_after found rs = first (met (any_filled new_padding rs) 2) (first (met (any_other rs) 3) found)

pub first_some : (m n : ℕ) → (m ≡ 0 → ⊥) → m ≡ first m n
first_some zero n some = absurd (some refl)
first_some (suc m) n some = refl

-- records, one after another
module _ (found : ℕ) (r : List ℕ) (rs : List (List ℕ)) where
  pub fault_stops : fault_of r ≡ 2 → fault_after found (r ∷ rs) ≡ 2
  unfolding any_filled any_other
  fault_stops e = go (filled new_padding r) (other_ratio r) e
    where
      go : (f o : Bool) → first (met f 2) (met o 3) ≡ 2 → first (met (f || any_filled new_padding rs) 2) (first (met (o || any_other rs) 3) found) ≡ 2
      go true o h = refl
      go false true h = absurd (omega arith)
      go false false h = absurd (omega arith)

  pub fault_goes : (fault_of r ≡ 2 → ⊥) → fault_after found (r ∷ rs) ≡ fault_after (first (fault_of r) found) rs
  unfolding any_filled any_other
  fault_goes e = go (filled new_padding r) (other_ratio r) (any_other rs) e
    where
      go : (f o p : Bool) → (first (met f 2) (met o 3) ≡ 2 → ⊥)
          → first (met (f || any_filled new_padding rs) 2) (first (met (o || p) 3) found)
          ≡ first (met (any_filled new_padding rs) 2) (first (met p 3) (first (first (met f 2) (met o 3)) found))
      go true o p h = absurd (h refl)
      go false true true h = refl
      go false true false h = refl
      go false false p h = refl

-- the pass over an old file's records, from a place on
module _ (file : List ℕ) (p : ℕ) where
  pub filled_stops : p + old_record_size ≤ length file → filled old_padding (part p old_record_size file) ≡ true → new_faults (records_in old_record_size (drop p file)) ≡ 2
  unfolding any_filled
  filled_stops whole e = rw (records_more old_record_size file p (omega arith) whole, e)

  pub filled_goes : p + old_record_size ≤ length file → filled old_padding (part p old_record_size file) ≡ false
      → new_faults (records_in old_record_size (drop p file)) ≡ new_faults (records_in old_record_size (drop (p + old_record_size) file))
  unfolding any_filled
  filled_goes whole e = rw (records_more old_record_size file p (omega arith) whole, e)

  pub filled_ends : length file < p + old_record_size → new_faults (records_in old_record_size (drop p file)) ≡ 0
  unfolding any_filled
  filled_ends short = rw (records_none old_record_size file p (omega arith) short)

-- the pass over a new file's records: before it nothing is found
pub pass_starts : (file : List ℕ) → fault_after 0 (records_in record_size file) ≡ old_faults (records_in record_size file)
pass_starts file = ap (first (met (any_filled new_padding (records_in record_size file)) 2)) (none_after (met (any_other (records_in record_size file)) 3))

-- .. and from a place on
module _ (found : ℕ) (file : List ℕ) (p : ℕ) where
  pub pass_stops : p + record_size ≤ length file → fault_of (part p record_size file) ≡ 2 → fault_after found (records_in record_size (drop p file)) ≡ 2
  pass_stops whole two =
      ap (fault_after found) (records_more record_size file p (omega arith) whole) ∙ fault_stops found (part p record_size file) (records_in record_size (drop (p + record_size) file)) two

  pub pass_goes : {fault next : ℕ} → p + record_size ≤ length file → fault ≡ fault_of (part p record_size file) → (fault ≡ 2 → ⊥) → next ≡ first fault found
      → fault_after found (records_in record_size (drop p file)) ≡ fault_after next (records_in record_size (drop (p + record_size) file))
  pass_goes whole told other noted =
      ap (fault_after found) (records_more record_size file p (omega arith) whole)
      ∙ fault_goes found (part p record_size file) (records_in record_size (drop (p + record_size) file)) (λ two. other (told ∙ two))
      ∙ ap (λ (n : ℕ). fault_after n (records_in record_size (drop (p + record_size) file))) (sym (noted ∙ ap (λ (n : ℕ). first n found) told))

  pub pass_ends : length file < p + record_size → fault_after found (records_in record_size (drop p file)) ≡ found
  unfolding any_filled any_other
  pass_ends short = ap (fault_after found) (records_none record_size file p (omega arith) short)
