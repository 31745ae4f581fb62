-- The name that stands there is the line's; and what makes a name bad.
--     name-found    the part that the answer names is the name
use Rattle.std.specs.Prelude.{ℕ, suc, ◌+◌, ◌-◌, ◌≤◌, ◌<◌, ◌≡◌, refl, Bool, true, false, ◌||◌, List, [], ◌∷◌, length, take, drop, get_or}
use Rattle.std.specs.List.{list_any}
use Rattle.std.proofs.Common.{sym, ◌∙◌, ap, ⊎_elim, add-one, arith, drop_of_length-le, drop-drop}
use borrow.Author.Tests.{ne_eqb, lt-ltb, le-ltb, le-leb, lt-leb}
use Rattle.std.proofs.Math.Seq.{drop-cons, take-nil}
use Rattle.meaning.specs.Words.{◌=?◌, when◌then◌else◌, empty}
use Rattle.meaning.specs.Lines.{blank}
use Rattle.meaning.specs.Fields.{Form, Fixed, Free, is_blank, comma, mark_of, trim_end, skip_blanks, strip, word, name_in}
use Rattle.meaning.specs.Records.{any_blank, bad_name}
use Rattle.sequences.specs.Choices.{below_or_not, taken, passed}
use Rattle.sequences.specs.Parts.{part}
use Rattle.sequences.specs.Runs.{run}
use Rattle.fields.specs.declared.Span.{Span}
use Rattle.fields.specs.Spans.{in_value, blanks_end, value_end, span_of, cut, first_place, start_of, span_at}
use Rattle.fields.specs.Turns.{Turn, turn, first_stands}
use Rattle.fields.specs.Fixed.{skip_drop, field_cut, value_part}
use Rattle.fields.specs.Names.{name_from, name_span}

pub name_none : (form : Form) (l : List ℕ) (c : ℕ) → length l ≤ c → span_of 0 0 c ≡ name_from form l c
unfolding name_from
name_none form l c h = taken _ (le-leb _ _ h) refl

pub name_some : (form : Form) (l : List ℕ) (c : ℕ) → c < length l → span_at form l 0 c ≡ name_from form l c
unfolding name_from
name_some form l c h = passed _ (lt-leb _ _ h) refl

-- in free form a name is a run
word-run : (s : List ℕ) → word s ≡ take (run in_value s) s
unfolding word run mark_of when◌then◌else◌
word-run [] = refl
word-run (b ∷ s) = go (b =? blank) refl (b =? comma) refl (word-run s)
  where
    go : (x : Bool) → (b =? blank) ≡ x → (y : Bool) → (b =? comma) ≡ y → word s ≡ take (run in_value s) s → word (b ∷ s) ≡ take (run in_value (b ∷ s)) (b ∷ s)
    go true e y f ih = rw e
    go false e true f ih = rw (e, f)
    go false e false f ih = rw (e, f, ih)

-- the name, from the place of field 1 on
abbrev name_at : Form → List ℕ → ℕ → List ℕ
name_at Free l c = word (drop c l)
name_at Fixed l c = strip (cut l c 8)

name-is : (form : Form) (l : List ℕ) → name_at form l (first_place form l) ≡ name_in form l
unfolding start_of when◌then◌else◌
name-is Free l = ap word (sym (drop-drop (run is_blank (drop 2 l)) 2 l) ∙ sym (skip_drop (drop 2 l)))
name-is Fixed l = sym (field_cut l 0)

no_name : (form : Form) (l : List ℕ) (c : ℕ) → length l ≤ c → [] ≡ name_at form l c
unfolding word strip skip_blanks trim_end
no_name Free l c h = rw (drop_of_length-le l h)
no_name Fixed l c h = rw (drop_of_length-le l h, take-nil)

name-part : (form : Form) (l : List ℕ) → first_place form l < length l
    → let r : Span = span_at form l 0 (first_place form l) in part r.from (r.to - r.from) l ≡ name_at form l (first_place form l)
name-part Free l h =
    let c = blanks_end l 2 in
    let n : value_end l c - c ≡ run in_value (drop c l) = omega arith in
    rw n (sym (word-run (drop c l)))
name-part Fixed l h =
    let v = length (strip (cut l 2 8)) in
    let n : 2 + run is_blank (cut l 2 8) + v - (2 + run is_blank (cut l 2 8)) ≡ v = omega arith in
    rw n (value_part l 2 8 h (omega arith))

-- The name stands within the line.
pub record NameAt (form : Form) (l : List ℕ) (r : Span) : Type 0 where
  pub begins : r.from ≤ r.to
  pub ends : r.to ≤ length l
  pub name : part r.from (r.to - r.from) l ≡ name_in form l

module _ (form : Form) (l : List ℕ) (short : length l ≤ 80) where
  abbrev place : ℕ
  place = first_place form l

  found_none : length l ≤ place → NameAt form l (span_of 0 0 place)
  found_none h = record { begins = omega arith; ends = omega arith; name = no_name form l place h ∙ name-is form l }

  found_some : place < length l → NameAt form l (span_at form l 0 place)
  found_some h =
      let t : Turn form l 0 place (span_at form l 0 place) = turn form l 0 place (span_at form l 0 place) h short (first_stands form l) refl in
      record { begins = t.begins; ends = t.ends; name = name-part form l h ∙ name-is form l }

  pub name-found : (r : Span) → r ≡ name_span form l → NameAt form l r
  name-found r e =
      ⊎_elim
      (λ h. rw (e, ← name_some form l place h) (found_some h))
      (λ h. rw (e, ← name_none form l place h) (found_none h))
      (below_or_not place (length l))

-- a blank among a name's bytes
module _ (s : List ℕ) (i : ℕ) where
  module _ (h : i < length s) where
    pub blank-here : get_or s i 0 ≡ blank → any_blank (drop i s) ≡ true
    unfolding any_blank
    blank-here e = rw (drop-cons s i 0 h, e)

    pub blank-later : (get_or s i 0 ≡ blank → ⊥) → any_blank (drop i s) ≡ any_blank (drop (i + 1) s)
    unfolding any_blank
    blank-later e = rw (add-one, drop-cons s i 0 h, ne_eqb _ _ e)

  pub blank_nowhere : length s ≤ i → any_blank (drop i s) ≡ false
  unfolding any_blank
  blank_nowhere h = rw (drop_of_length-le s h)

pub blanks_any : (s : List ℕ) → list_any (λ b. b =? blank) s ≡ any_blank s
unfolding any_blank
blanks_any [] = refl
blanks_any (b ∷ s) = ap (λ (t : Bool). is_blank b || t) (blanks_any s)

-- the ways through the definition of a bad name
pub empty_bad : (s : List ℕ) → length s < 1 → true ≡ bad_name s
unfolding bad_name
empty_bad [] h = refl
empty_bad (b ∷ s) h = absurd (let k : suc (length s) < 1 = h in omega arith)

module _ (s : List ℕ) (some : 1 ≤ length s) where
  not_empty : empty s ≡ false
  not_empty = go s some
    where
      go : (s : List ℕ) → 1 ≤ length s → empty s ≡ false
      go [] h = absurd (let k : 1 ≤ 0 = h in omega arith)
      go (b ∷ s) h = refl

  pub long_bad : 6 < length s → true ≡ bad_name s
  unfolding bad_name
  long_bad h = rw (not_empty, lt-ltb 6 (length s) h)

  pub blank_bad : length s ≤ 6 → any_blank s ≡ bad_name s
  unfolding bad_name
  blank_bad h = rw (not_empty, le-ltb 6 (length s) h)
