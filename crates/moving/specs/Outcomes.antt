-- What comes back of a file: the room's bytes behind those that were moved are zeros, or all of it is.
--     zeros_all, zeros-behind     zeros written in all of the room, and behind its first bytes
--     way_judged                  the refusals in their order, with the room for as many bytes as are moved
--     way_refused, way_moved      what comes of a file by its refusal, either way
--     way_room                    a file that is not refused has its room
use Rattle.std.specs.Prelude.{ℕ, ◌-◌, ◌*◌, ◌/◌, ◌%◌, ◌≤◌, ◌≡◌, List, length, take, drop, replicate, Ok, Err}
use Rattle.std.proofs.Common.{sym, ap, ◌∙◌, length-drop, length-take-le, take_at, eq-eqb, ltb-false}
use Rattle.meaning.specs.Words.{◌<?◌, met, first}
use Rattle.meaning.specs.Moving.{records_in, length_refusal, Outcome, moved_unless}
use Rattle.sequences.specs.Parts.{part, put, put_tail, part_to_end}
use Rattle.forms.specs.declared.Fault.{Fault}
use Rattle.forms.specs.Fault.{number_of}
use Rattle.sequences.specs.Refusals.{neither_met, not_met}
use Rattle.moving.specs.Answers.{outcome_is, refused_in, moved_in, unless-refused, unless_moved}
use Rattle.moving.specs.Records.{moved_by, length_moved}
use Rattle.moving.specs.Loops.{MovedTo}
use Rattle.moving.specs.Ways.{refusal_of, Way}

pub zeros_all : (fault : Fault) (room : List ℕ) {zeros : List ℕ} → zeros ≡ replicate (length room) 0 → outcome_is (Err fault) zeros ≡ refused_in (number_of fault) (length room)
zeros_all fault room e = rw e

pub zeros-behind : (n : ℕ) (room : List ℕ) {zeros : List ℕ} → n ≤ length room → zeros ≡ replicate (length (part n (length room - n) room)) 0
    → outcome_is (Ok n) (put n (length room - n) room zeros) ≡ moved_in (take n room) (length room)
zeros-behind n room h e =
    let count : length (take n room) ≡ n = length-take-le n room h in
    let behind : length (part n (length room - n) room) ≡ length room - n = ap length (part_to_end n room) ∙ length-drop n room in
    rw (put_tail n room, e, behind, count)

-- moved bytes as the loop leaves them
settled : {moved room₀ room : List ℕ} {n : ℕ} → MovedTo moved room₀ room n → length room ≡ length room₀ → moved_in (take n room) (length room) ≡ moved_in moved (length room₀)
settled {moved} {room₀} {room} {n} m long =
    let front : take n room ≡ moved = ap (take n) m.holds ∙ take_at moved (drop n room₀) n (sym m.count) in
    rw (front, long)

module _ {size to : ℕ} {form : List ℕ → List ℕ} {faults : List (List ℕ) → ℕ} {way : List ℕ → ℕ → Outcome} (w : Way size to form faults way) where
  pub way_judged : (file : List ℕ) (room : ℕ) {found short number : ℕ} → length file % size ≡ 0 → found ≡ faults (records_in size file)
      → short ≡ met (room <? length file / size * to) 4 → number ≡ first found short → number ≡ refusal_of size form faults file room
  way_judged file room whole e f g = g ∙ rw (eq-eqb (length file % size) 0 whole, e, f, length_moved form size to w.makes file)

  module _ (file : List ℕ) (room : ℕ) {number : ℕ} (told : number ≡ refusal_of size form faults file room) where
    comes : way file room ≡ moved_unless number (moved_by form size file) room
    comes = w.is file room ∙ ap (λ (n : ℕ). moved_unless n (moved_by form size file) room) (sym told)

    pub way_refused : (number ≡ 0 → ⊥) → refused_in number room ≡ way file room
    way_refused some = sym (comes ∙ unless-refused number (moved_by form size file) room some)

    pub way_room : number ≡ 0 → length (moved_by form size file) ≤ room
    way_room none =
        let chain = neither_met (length_refusal size file) _ (sym told ∙ none) in
        let after = neither_met (faults (records_in size file)) _ chain.1 in
        ltb-false room (length (moved_by form size file)) (not_met _ 3 after.1)

  pub way_moved : (file room₀ : List ℕ) {room : List ℕ} {number n : ℕ} → number ≡ refusal_of size form faults file (length room₀) → number ≡ 0 → length room ≡ length room₀
      → MovedTo (moved_by form size file) room₀ room n → moved_in (take n room) (length room) ≡ way file (length room₀)
  way_moved file room₀ {room} {number} told none long m =
      settled m long ∙ sym (comes file (length room₀) told ∙ unless_moved number (moved_by form size file) (length room₀) none)
