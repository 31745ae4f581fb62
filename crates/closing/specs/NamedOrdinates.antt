-- The ordinates as results come in: zeros until the named block is closed, and then its hydrograph in front.
--     named_more, named-next, named_last     the hydrograph of the named block
--     ordinates_for                           the ordinates that some results leave, with ordinates_more: by one result more
use Rattle.std.specs.Prelude.{ℕ, zero, suc, ◌+◌, ◌-◌, ◌≤◌, ◌<◌, ◌≡◌, refl, Bool, true, false, ◌&&◌, ◌⊎◌, List, [], ◌∷◌, ◌++◌, get_or, replicate}
use Rattle.std.proofs.Common.{sym, ◌∙◌, ⊎_elim}
use Rattle.std.proofs.Math.Bool.{and-false}
use native.Mathlib.Omega.{arith}
use borrow.Author.Tests.{ne_eqb, eqb-true, eqb-false, le-leb, lt-leb}
use Rattle.std.proofs.Math.ListN.{length, length-append}
use Rattle.sequences.specs.Choices.{taken, passed, below_or_not}
use Rattle.sequences.specs.Zeros.{drop-replicate}
use Rattle.meaning.specs.Words.{◌=?◌, ◌≤?◌, when◌then◌else◌}
use Rattle.meaning.specs.Results.{Result}
use Rattle.meaning.specs.Run.{flows_of, named_flow}
use Rattle.writing.specs.WrittenResult.{copied_first, copied_named}

-- THE NAMED BLOCK
flow_more : (rs : List Result) (r : Result) (i : ℕ) → i < length rs → get_or (flows_of (rs ++ (r ∷ []))) i [] ≡ get_or (flows_of rs) i []
flow_more [] r i h = absurd (omega arith)
flow_more (x ∷ rs) r zero h = refl
flow_more (x ∷ rs) r (suc i) h = flow_more rs r i (omega arith)

flow_last : (rs : List Result) (r : Result) → get_or (flows_of (rs ++ (r ∷ []))) (length rs) [] ≡ r.held.flow
flow_last [] r = refl
flow_last (x ∷ rs) r = flow_last rs r

module _ (rs : List Result) (r : Result) where
  pub named_more : (named : ℕ) → 1 ≤ named → named ≤ length rs → named_flow named (rs ++ (r ∷ [])) ≡ named_flow named rs
  unfolding named_flow when◌then◌else◌
  named_more named some few =
      let given : named ≡ 0 → ⊥ = λ e. omega arith in
      rw (ne_eqb named 0 given) (flow_more rs r (named - 1) (omega arith))

  pub named-next : named_flow (length rs + 1) (rs ++ (r ∷ [])) ≡ r.held.flow
  unfolding named_flow when◌then◌else◌
  named-next =
      let given : length rs + 1 ≡ 0 → ⊥ = λ e. omega arith in
      let i : length rs + 1 - 1 ≡ length rs = omega arith in
      rw (ne_eqb (length rs + 1) 0 given, i) (flow_last rs r)

  pub named_last : named_flow 0 (rs ++ (r ∷ [])) ≡ r.held.flow
  unfolding named_flow when◌then◌else◌
  named_last =
      let i : length (rs ++ (r ∷ [])) - 1 ≡ length rs = omega (arith, length-append rs (r ∷ [])) in
      rw i (flow_last rs r)

-- THE ORDINATES
unfoldable pub ordinates_for : (named nq n : ℕ) → List Result → List ℕ
ordinates_for named nq n rs = when (1 ≤? named) && (named ≤? length rs) && (nq ≤? n) then named_flow named rs ++ replicate (n - nq) 0 else replicate n 0

module _ (named nq n : ℕ) (rs : List Result) where
  pub ordinates_given : 1 ≤ named → named ≤ length rs → nq ≤ n → ordinates_for named nq n rs ≡ named_flow named rs ++ replicate (n - nq) 0
  unfolding ordinates_for when◌then◌else◌
  ordinates_given some few room = rw (le-leb 1 named some, le-leb named (length rs) few, le-leb nq n room)

  pub none_named : named < 1 → ordinates_for named nq n rs ≡ replicate n 0
  unfolding ordinates_for when◌then◌else◌
  none_named h = rw (lt-leb 1 named h)

  pub not_yet_closed : length rs < named → ordinates_for named nq n rs ≡ replicate n 0
  unfolding ordinates_for when◌then◌else◌
  not_yet_closed h = rw (lt-leb named (length rs) h, and-false (1 ≤? named))

  no_room : n < nq → ordinates_for named nq n rs ≡ replicate n 0
  unfolding ordinates_for when◌then◌else◌
  no_room h = rw (lt-leb nq n h, and-false ((1 ≤? named) && (named ≤? length rs)))

-- one result more leaves them, unless it is the named block's
ordinates-kept : (named nq n : ℕ) (rs : List Result) (r : Result) → (named ≡ length rs + 1 → ⊥) → ordinates_for named nq n rs ≡ ordinates_for named nq n (rs ++ (r ∷ []))
ordinates-kept named nq n rs r other =
    let more = rs ++ (r ∷ []) in
    let long : length more ≡ length rs + 1 = length-append rs (r ∷ []) in
    ⊎_elim
    (λ h. none_named named nq n rs h ∙ sym (none_named named nq n more h))
    (λ some.
    ⊎_elim
    (λ h. let later : length more < named = omega arith in not_yet_closed named nq n rs h ∙ sym (not_yet_closed named nq n more later))
    (λ few.
    ⊎_elim
    (λ h. no_room named nq n rs h ∙ sym (no_room named nq n more h))
    (λ room. ordinates_given named nq n rs some few room ∙ rw (sym (named_more rs r named some few)) (sym (ordinates_given named nq n more some (omega arith) room)))
    (below_or_not n nq))
    (below_or_not (length rs) named))
    (below_or_not named 1)

-- a flow in front of zeros
pub copied_zeros : (nq n : ℕ) (flow : List ℕ) {ordinates : List ℕ} → nq ≤ n → length ordinates ≡ n → ordinates ≡ replicate n 0
    → copied_first nq flow ordinates ≡ flow ++ replicate (n - nq) 0
copied_zeros nq n flow room long e = sym (taken _ (rw long (le-leb nq n room)) (rw (e, drop-replicate nq n 0)))

uncopied : (nq n : ℕ) (flow : List ℕ) {ordinates : List ℕ} → n < nq → length ordinates ≡ n → copied_first nq flow ordinates ≡ ordinates
uncopied nq n flow none long = sym (passed _ (rw long (lt-leb nq n none)) refl)

pub ordinates_more : (named nq n : ℕ) (rs : List Result) (r : Result) {ordinates : List ℕ} → length ordinates ≡ n → ordinates ≡ ordinates_for named nq n rs
    → copied_named named (length rs) nq r.held.flow ordinates ≡ ordinates_for named nq n (rs ++ (r ∷ []))
ordinates_more named nq n rs r {ordinates} long e = by_test (named =? (length rs + 1)) refl
  where
    by_room : named ≡ length rs + 1 → (n < nq) ⊎ (nq ≤ n) → copied_first nq r.held.flow ordinates ≡ ordinates_for named nq n (rs ++ (r ∷ []))
    by_room is h =
        let zeros : ordinates ≡ replicate n 0 = e ∙ not_yet_closed named nq n rs (omega arith) in
        ⊎_elim
        (λ none. uncopied nq n r.held.flow none long ∙ zeros ∙ sym (no_room named nq n (rs ++ (r ∷ [])) none))
        (λ room.
        copied_zeros nq n r.held.flow room long zeros
        ∙ sym (ordinates_given named nq n (rs ++ (r ∷ [])) (omega arith) (omega (arith, length-append rs (r ∷ []))) room ∙ rw (is, named-next rs r)))
        h

    by_test : (t : Bool) → (named =? (length rs + 1)) ≡ t → copied_named named (length rs) nq r.held.flow ordinates ≡ ordinates_for named nq n (rs ++ (r ∷ []))
    by_test true s = sym (taken _ s refl) ∙ by_room (eqb-true named (length rs + 1) s) (below_or_not n nq)
    by_test false s = sym (passed _ s refl) ∙ e ∙ ordinates-kept named nq n rs r (eqb-false named (length rs + 1) s)
