-- Files as the records that they are made of.
--     Sized                          records of so many bytes each; sized_map, sized_append: of records in another form, and of more records
--     joined-append                  records and more records, as files
--     length-joined, whole-joined    how many bytes records make, and that this is whole records
--     records-joined, records-of     the records of a file that is made of records, and of what stands behind it
--     sized_records, joined-records  a file's records have the size, and make the file where it is whole
--     join_files                     two files one behind the other, of their records
use Rattle.std.specs.Prelude.{ℕ, zero, suc, ◌+◌, ◌*◌, ◌/◌, ◌%◌, ◌≤◌, ◌<◌, ◌≡◌, refl, List, [], ◌∷◌, ◌++◌, map, length, drop}
use Rattle.std.proofs.Common.{sym, ap, ◌∙◌, append-nil, append_assoc, suc-mul, div-mul-le_self, arith, length-append, length-drop, take-append-drop, length-take-le, take_at, drop_at}
use Rattle.std.proofs.Math.Nat.{div-add-mod', mul-mod_left}
use Rattle.meaning.specs.Moving.{records_from, records_in, joined}
use Rattle.moving.specs.Records.{first_record, no_record}
use Rattle.forms.specs.Forms.{Makes}

abbrev pub Sized : (size : ℕ) → List (List ℕ) → Type 0
Sized size [] = Unit
Sized size (r ∷ rs) = (length r ≡ size) × Sized size rs

pub joined-append : (rs ss : List (List ℕ)) → joined (rs ++ ss) ≡ joined rs ++ joined ss
joined-append [] ss = refl
joined-append (r ∷ rs) ss = rw (joined-append rs ss) (sym (append_assoc r (joined rs) (joined ss)))

pub sized_map : (form : List ℕ → List ℕ) (size to : ℕ) → Makes form size to → (rs : List (List ℕ)) → Sized size rs → Sized to (map form rs)
sized_map form size to makes [] h = tt
sized_map form size to makes (r ∷ rs) h = (makes r h.0, sized_map form size to makes rs h.1)

module _ (size : ℕ) where
  pub sized_append : (rs ss : List (List ℕ)) → Sized size rs → Sized size ss → Sized size (rs ++ ss)
  sized_append [] ss h k = k
  sized_append (r ∷ rs) ss h k = (h.0, sized_append rs ss h.1 k)

  pub length-joined : (rs : List (List ℕ)) → Sized size rs → length (joined rs) ≡ length rs * size
  length-joined [] h = omega arith
  length-joined (r ∷ rs) h = simp length-append (omega (arith, h.0, length-joined rs h.1, suc-mul (length rs) size))

  pub whole-joined : (rs : List (List ℕ)) → Sized size rs → length (joined rs) % size ≡ 0
  whole-joined rs h = rw (length-joined rs h) (mul-mod_left (length rs) size)

  module _ (some : 0 < size) where
    pub records-joined : (rs : List (List ℕ)) (b : List ℕ) → Sized size rs → records_in size (joined rs ++ b) ≡ rs ++ records_in size b
    records-joined [] b h = refl
    records-joined (r ∷ rs) b h =
        let long : size ≤ length (r ++ (joined rs ++ b)) = simp length-append (omega (arith, h.0)) in
        rw (
          append_assoc r (joined rs) b,
          first_record size (r ++ (joined rs ++ b)) some long,
          take_at r (joined rs ++ b) size h.0,
          drop_at r (joined rs ++ b) size h.0,
          records-joined rs b h.1,
        )

    pub records-of : (rs : List (List ℕ)) → Sized size rs → records_in size (joined rs) ≡ rs
    records-of rs h =
        ap (records_in size) (sym (append-nil (joined rs))) ∙ records-joined rs [] h ∙ ap (λ (l : List (List ℕ)). rs ++ l) (no_record size [] some) ∙ append-nil rs

  sized_from : (count : ℕ) (file : List ℕ) → count * size ≤ length file → Sized size (records_from size count file)
  sized_from zero file enough = tt
  sized_from (suc count) file enough =
      let apart : size + count * size ≤ length file = omega (arith, suc-mul count size) in
      let left : count * size ≤ length (drop size file) = simp length-drop (omega arith) in
      (length-take-le size file (omega arith), sized_from count (drop size file) left)

  joined_from : (count : ℕ) (file : List ℕ) → count * size ≡ length file → joined (records_from size count file) ≡ file
  joined_from zero [] all = refl
  joined_from zero (b ∷ file) all = absurd (omega arith)
  joined_from (suc count) file all =
      let left : count * size ≡ length (drop size file) = simp length-drop (omega (arith, suc-mul count size)) in
      rw (joined_from count (drop size file) left) (take-append-drop size file)

  pub sized_records : (file : List ℕ) → Sized size (records_in size file)
  unfolding records_in
  sized_records file = sized_from (length file / size) file (div-mul-le_self (length file) size)

  pub joined-records : (file : List ℕ) → length file % size ≡ 0 → joined (records_in size file) ≡ file
  unfolding records_in
  joined-records file whole = joined_from (length file / size) file (omega (arith, div-add-mod' (length file) size))

  pub join_files : (a b : List ℕ) → length a % size ≡ 0 → length b % size ≡ 0 → a ++ b ≡ joined (records_in size a ++ records_in size b)
  join_files a b ha hb = sym (joined-append (records_in size a) (records_in size b) ∙ rw (joined-records a ha, joined-records b hb))
