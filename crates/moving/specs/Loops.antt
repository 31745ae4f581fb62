-- The loop that moves: after each turn the records before p stand in the room before q, in their other form, and the room from q on is as it was.
--     MovedTo          bytes moved to the front of a room
--     Moving           what holds between two turns
--     moving_starts, moving_fits, moving_goes, moving_ends     before the first turn; there is room for one record more; a turn; after the last
use Rattle.std.specs.Prelude.{ℕ, ◌+◌, ◌≤◌, ◌<◌, ◌≡◌, refl, drop}
use Rattle.std.proofs.Math.Path.{sym, ap}
use Rattle.std.proofs.Common.{◌∙◌, arith, length-append, take-append-drop, drop-drop}
use mathlib.Core.List.{List, [], ◌++◌, append-nil, append_assoc, map}
use Rattle.std.proofs.Math.ListN.{length, take}
use Rattle.std.proofs.Math.Seq.{length-take-le}
use Rattle.meaning.specs.Moving.{joined}
use Rattle.sequences.specs.Parts.{part, put, length_part, length-put, take_through, drop-put}
use Rattle.moving.specs.Records.{records_more, records_none, moved_by}
use Rattle.forms.specs.Forms.{Makes}

-- How many they are, and what the room then holds: what is behind them is as it was.
pub record MovedTo (moved room₀ room : List ℕ) (n : ℕ) : Type 0 where
  pub count : n ≡ length moved
  pub holds : room ≡ moved ++ drop n room₀

pub record Moving (form : List ℕ → List ℕ) (size : ℕ) (file room₀ room : List ℕ) (p q : ℕ) : Type 0 where
  pub inside : p ≤ length file
  pub placed : q ≤ length room₀
  pub long : length room ≡ length room₀
  pub done : take q room ++ moved_by form size (drop p file) ≡ moved_by form size file
  pub rest : drop q room ≡ drop q room₀

module _ (form : List ℕ → List ℕ) (size to : ℕ) (some : 0 < size) (makes : Makes form size to) (file room₀ : List ℕ) where
  pub moving_starts : Moving form size file room₀ room₀ 0 0
  moving_starts = record { inside = omega arith; placed = omega arith; long = refl; done = refl; rest = refl }

  module _ (room : List ℕ) (p q : ℕ) (v : Moving form size file room₀ room p q) where
    next_moved : p + size ≤ length file → moved_by form size (drop p file) ≡ form (part p size file) ++ moved_by form size (drop (p + size) file)
    unfolding moved_by
    next_moved whole = ap (λ (rs : List (List ℕ)). joined (map form rs)) (records_more size file p some whole)

    made : p + size ≤ length file → length (form (part p size file)) ≡ to
    made whole = makes (part p size file) (length_part p size file whole)

    pub moving_fits : p + size ≤ length file → length (moved_by form size file) ≤ length room₀ → q + to ≤ length room₀
    moving_fits whole room_enough =
        let front : length (take q room) ≡ q = length-take-le q room (omega arith) in
        omega (arith, made whole, simp length-append at (ap length v.done), simp length-append at (ap length (next_moved whole)))

    pub moving_goes : (room' : List ℕ) → p + size ≤ length file → q + to ≤ length room₀ → room' ≡ put q to room (form (part p size file))
        → Moving form size file room₀ room' (p + size) (q + to)
    moving_goes room' whole fits e =
        let fit : q + to ≤ length room = omega arith in
        record {
          inside = whole;
          placed = fits;
          long = ap length e ∙ length-put q to room (form (part p size file)) fit (made whole) ∙ v.long;
          done =
              rw (e, take_through q to room (form (part p size file)) fit (made whole), append_assoc (take q room) (form (part p size file)) (moved_by form size (drop (p + size) file)))
              (rw (sym (next_moved whole)) v.done);
          rest =
              ap (drop (q + to)) e ∙ drop-put q to room (form (part p size file)) fit (made whole) ∙ sym (drop-drop to q room) ∙ ap (drop to) v.rest ∙ drop-drop to q room₀;
        }

    pub moving_ends : length file < p + size → MovedTo (moved_by form size file) room₀ room q
    unfolding moved_by
    moving_ends short =
        let none : moved_by form size (drop p file) ≡ [] = ap (λ (rs : List (List ℕ)). joined (map form rs)) (records_none size file p some short) in
        let all : take q room ≡ moved_by form size file = sym (append-nil (take q room)) ∙ ap (λ (l : List ℕ). take q room ++ l) (sym none) ∙ v.done in
        let front : length (take q room) ≡ q = length-take-le q room (omega arith) in
        record { count = sym front ∙ ap length all; holds = sym (take-append-drop q room) ∙ rw (all, v.rest) }
