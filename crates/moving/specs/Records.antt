-- A file's records, of any size: what a loop that goes from one to the next knows of those that are left.
--     first_record, no_record        a file that has one whole record at least, and one that has none
--     records_more, records_none     the same from a place on
--     moved_by                        the records, each put into another form, one behind another
--     length_moved                   how many bytes these are, where the form makes so many of a record
use Prim.Native.Nat.{ℕ, zero, suc, ◌+◌, ◌-◌, ◌*◌, ◌/◌, ◌≤◌, ◌<◌}
use Rattle.std.specs.Prelude.{◌≡◌, List, [], ◌∷◌, map, take, drop}
use Rattle.std.proofs.Common.{sym, ◌∙◌, div-mul-le_self, suc-mul, arith, length-append, length-drop, drop-drop, length-take-le}
use Rattle.std.proofs.Math.Path.{ap}
use Rattle.std.proofs.Math.Nat.{div-eq-sub-div, div-eq_of_lt}
use Rattle.std.proofs.Math.Numerals.{add-one}
use Rattle.std.proofs.Math.ListN.{length}
use Rattle.meaning.specs.Moving.{records_from, records_in, joined}
use Rattle.forms.specs.Forms.{Makes}

module _ (size : ℕ) where
  pub first_record : (file : List ℕ) → 0 < size → size ≤ length file → records_in size file ≡ take size file ∷ records_in size (drop size file)
  unfolding records_in
  first_record file some whole =
      let count : length file / size ≡ suc (length (drop size file) / size) =
      div-eq-sub-div some whole ∙ add-one ((length file - size) / size) ∙ ap (λ (n : ℕ). suc (n / size)) (sym (length-drop size file)) in
      ap (λ (n : ℕ). records_from size n file) count

  pub no_record : (file : List ℕ) → length file < size → records_in size file ≡ []
  unfolding records_in
  no_record file short = ap (λ (n : ℕ). records_from size n file) (div-eq_of_lt short)

  pub records_more : (file : List ℕ) (p : ℕ) → 0 < size → p + size ≤ length file
      → records_in size (drop p file) ≡ take size (drop p file) ∷ records_in size (drop (p + size) file)
  records_more file p some whole =
      let left : size ≤ length (drop p file) = simp length-drop (omega arith) in
      first_record (drop p file) some left ∙ ap (λ (l : List ℕ). take size (drop p file) ∷ records_in size l) (drop-drop size p file)

  pub records_none : (file : List ℕ) (p : ℕ) → 0 < size → length file < p + size → records_in size (drop p file) ≡ []
  records_none file p some short =
      let left : length (drop p file) < size = simp length-drop (omega arith) in
      no_record (drop p file) left

unfoldable pub moved_by : (form : List ℕ → List ℕ) → (size : ℕ) → List ℕ → List ℕ
moved_by form size file = joined (map form (records_in size file))

module _ (form : List ℕ → List ℕ) (size to : ℕ) (makes : Makes form size to) where
  length_from : (count : ℕ) (file : List ℕ) → count * size ≤ length file → length (joined (map form (records_from size count file))) ≡ count * to
  length_from zero file enough = omega arith
  length_from (suc count) file enough =
      let apart : size + count * size ≤ length file = omega (arith, suc-mul count size) in
      let one : size ≤ length file = omega arith in
      let left : count * size ≤ length (drop size file) = simp length-drop (omega arith) in
      simp length-append (omega (arith, makes (take size file) (length-take-le size file one), length_from count (drop size file) left, suc-mul count to))

  pub length_moved : (file : List ℕ) → length (moved_by form size file) ≡ length file / size * to
  unfolding moved_by records_in
  length_moved file = length_from (length file / size) file (div-mul-le_self (length file) size)
