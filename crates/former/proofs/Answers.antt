-- No deck that was accepted before trailing zeros were taken off (document 02, request 7) has another answer now: the answer, the ordinates, the records and the work words
-- are what they were. Of the others only those refused by 6 may have another.
--     only-six_changed    a deck was refused by 6, or its outcome is what it was
--     accepted_before     so a deck that was accepted has the same outcome
--     refused_before      and so has one that was refused by another number than 6
--     worked_before       a deck that came to its end comes to the same: its time control and its results, of which listing and sheet are made
-- The idea: a field that had a value has the same value (Values, kept_value), so that the two readers are alike (Alike); and the open reading with the reader of now is that
-- of the definitions (Followed).
use Rattle.std.specs.Prelude.{ℕ, ◌≡◌, ◌⊎◌, List}
use Rattle.std.proofs.Common.{sym, ap, ◌∙◌, ⊎_elim, arith}
use Rattle.meaning.specs.Numbers.{number_of}
use Rattle.meaning.specs.Blocks.{Time}
use Rattle.meaning.specs.Results.{Result}
use Rattle.meaning.specs.Run.{Which, Stopped, Done, worked_under, Lent, Answer, Accepted, Refused, Outcome, refused, outcome}
use Rattle.former.specs.Reader.{former_number}
use Rattle.former.proofs.Values.{kept_value}
use Rattle.former.specs.ByReader.{worked_under_by}
use Rattle.former.specs.Followed.{open_worked}
use Rattle.former.proofs.Followed.{open_is}
use Rattle.former.specs.Alike.{worked_alike, outcomes_alike}
use Rattle.former.specs.Answers.{former_worked, former_outcome}

module _ (deck : List ℕ) (named ratio : ℕ) (lent : Lent) where
  pub only-six_changed : ((line : ℕ) × (former_outcome deck named ratio lent ≡ refused 6 line lent)) ⊎ (former_outcome deck named ratio lent ≡ outcome deck named ratio lent)
  only-six_changed = rw (open_is deck named ratio lent) at (outcomes_alike former_number number_of kept_value named ratio lent deck)

  -- by what was answered
  answered : (a : Answer) → (former_outcome deck named ratio lent).answer ≡ a → ((line : ℕ) → a ≡ Refused 6 line → ⊥)
      → outcome deck named ratio lent ≡ former_outcome deck named ratio lent
  answered a e other =
      ⊎_elim
      (λ (six : (line : ℕ) × (former_outcome deck named ratio lent ≡ refused 6 line lent)). absurd (other six.0 (sym e ∙ ap (λ (o : Outcome). o.answer) six.1)))
      (λ (same : former_outcome deck named ratio lent ≡ outcome deck named ratio lent). sym same)
      only-six_changed

  pub accepted_before : (nq blocks ratios : ℕ) → (former_outcome deck named ratio lent).answer ≡ Accepted nq blocks ratios
      → outcome deck named ratio lent ≡ former_outcome deck named ratio lent
  accepted_before nq blocks ratios e = answered (Accepted nq blocks ratios) e (λ (line : ℕ) h. let z : ◌≡◌ {A = ℕ} 0 1 = cc in omega arith)

  pub refused_before : (number line : ℕ) → (number ≡ 6 → ⊥) → (former_outcome deck named ratio lent).answer ≡ Refused number line
      → outcome deck named ratio lent ≡ former_outcome deck named ratio lent
  refused_before number line other e = answered (Refused number line) e (λ (line' : ℕ) h. other (cc))

pub worked_before : (which : Which) (deck : List ℕ) (τ : Time) (rss : List (List Result)) → former_worked which deck ≡ Done τ rss → worked_under which deck ≡ Done τ rss
worked_before which deck τ rss e =
    ⊎_elim
    (λ (six : (line : ℕ) × (former_worked which deck ≡ Stopped 6 line)). cc)
    (λ (same : former_worked which deck ≡ worked_under_by number_of which deck). sym (open_worked which deck) ∙ sym same ∙ e)
    (worked_alike former_number number_of kept_value which deck)
