-- What is asked of a result file; and that what comes back lies within what was lent for it.
--     moved_as         the file in the form that is asked for
--     accepted_fits   the records of an accepted deck lie within their room; moved_fits: and so does a file that was moved
use Rattle.std.specs.Prelude.{◌≡◌, Bool, true, false, ◌||◌, List, ◌++◌, ℕ, ◌-◌, ◌≤◌, length, replicate, Result, Ok}
use Rattle.std.proofs.Common.{sym, ap, ◌∙◌, arith, length-append, ltb-false}
use Rattle.sequences.specs.Choices.{both_fail}
use Rattle.meaning.specs.Words.{◌=?◌, ◌<?◌, when◌then◌else◌}
use Rattle.meaning.specs.Run.{Lent, Outcome, Accepted, record_bytes, block_count, no_room, outcome}
use Rattle.meaning.specs.Moving as meaning
use Rattle.meaning.specs.Moving.{to_new, to_old}
use Rattle.network.specs.Answers.{passed_all}
use Rattle.answers.specs.Answers.{Answer, accepted_as, answer_is, outcome_is}
use Rattle.forms.specs.declared.Fault.{Fault}
use Rattle.moving.specs.Answers as moving
use Rattle.moving.specs.Records.{moved_by}
use Rattle.moving.specs.Ways.{Way, new_way, old_way}
use Rattle.files.specs.Movers.{accepted}

-- 1: to the new form; else to the old.
abbrev pub moved_as : (asked : ℕ) → (file : List ℕ) → (room : ℕ) → meaning.Outcome
moved_as asked file room = when asked =? 1 then to_new file room else to_old file room

-- where 17 is not met there is room
roomy : (named ratio nq blocks ratios : ℕ) (lent : Lent) → no_room named ratio nq blocks ratios lent ≡ false → record_bytes blocks ratios ≤ lent.records
unfolding no_room
roomy named ratio nq blocks ratios lent h =
    let bytes = lent.records <? record_bytes blocks ratios in
    let x = both_fail ((lent.ordinates <? nq) || bytes || (blocks <? named)) (ratios <? ratio) h in
    let y = both_fail ((lent.ordinates <? nq) || bytes) (blocks <? named) x.0 in
    let z = both_fail (lent.ordinates <? nq) bytes y.0 in
    ltb-false lent.records (record_bytes blocks ratios) z.1

module _ (deck : List ℕ) (named ratio : ℕ) (lent : Lent) (a : Answer) (work ordinates records : List ℕ) where
  pub accepted_fits : {nq blocks ratios : ℕ} → outcome_is a work ordinates records ≡ outcome deck named ratio lent → a ≡ accepted_as nq blocks ratios
      → record_bytes blocks ratios ≤ lent.records
  accepted_fits {nq} {blocks} {ratios} e told =
      let says : (outcome deck named ratio lent).answer ≡ Accepted nq blocks ratios = sym (ap (λ (o : Outcome). o.answer) e) ∙ ap answer_is told in
      let s = (passed_all deck named ratio lent nq blocks ratios says).settles in
      let many : block_count s.results ≡ blocks = cc s.answer in
      let under : length s.results ≡ ratios = cc s.answer in
      rw (many, under) at (roomy named ratio s.time.ordinates (block_count s.results) (length s.results) lent s.room)

-- a move is of as many bytes as stand first in the room
module _ {size to : ℕ} {form : List ℕ → List ℕ} {faults : List (List ℕ) → ℕ} {way : List ℕ → ℕ → meaning.Outcome} (w : Way size to form faults way) where
  way_fits : (file : List ℕ) (lent : ℕ) (room : List ℕ) (n : ℕ) → moving.outcome_is (Ok n) room ≡ way file lent → n ≤ length room
  way_fits file lent room n e =
      let a = accepted w file lent n (sym (ap (λ (o : meaning.Outcome). o.answer) e)) in
      let behind : List ℕ = replicate (lent - length (moved_by form size file)) 0 in
      let whole : room ≡ moved_by form size file ++ behind = ap (λ (o : meaning.Outcome). o.room) (e ∙ a.comes) in
      omega (arith, a.count, ap length whole, length-append (moved_by form size file) behind)

either_fits : (t : Bool) (file : List ℕ) (lent : ℕ) (room : List ℕ) (n : ℕ) → moving.outcome_is (Ok n) room ≡ (when t then to_new file lent else to_old file lent) → n ≤ length room
unfolding when◌then◌else◌
either_fits true file lent room n e = way_fits new_way file lent room n e
either_fits false file lent room n e = way_fits old_way file lent room n e

pub moved_fits : (asked : ℕ) (file : List ℕ) (lent : ℕ) (m : Result ℕ Fault) (room : List ℕ) {n : ℕ} → moving.outcome_is m room ≡ moved_as asked file lent → m ≡ Ok n → n ≤ length room
moved_fits asked file lent m room {n} e told = either_fits (asked =? 1) file lent room n (rw told at e)
