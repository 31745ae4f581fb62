-- The turns of the walk, as its small functions make them.
--     StateBegins            where the walk begins
--     Stops, GoesOn          the deck is refused, or the next block is opened; stop_is: and what refuses it
--     OpensNext, EndsDeck    which of the ways it is, by the refusal of the block that is closed, and what then stands in the way
--     Told, told             what they are told of that block: any number may stand for its refusal
--     told_number, told_held     what is said of what is told is said of the block
use Rattle.std.specs.Prelude.{ℕ, zero, suc, ◌+◌, ◌-◌, ◌*◌, ◌≤◌, ◌<◌, ◌≡◌, refl, List, ◌⊎◌, Result, Ok, Err, IfOk, IfErr}
use Rattle.std.proofs.Common.{ap, sym, ◌∙◌, inl, inr, ⊎_elim, arith}
use Rattle.sequences.specs.Parts.{part}
use Rattle.meaning.specs.Words.{◌=?◌, when◌then◌else◌}
use Rattle.meaning.specs.Records.{most_ordinates}
use Rattle.meaning.specs.Run.{most_blocks}
use Rattle.refusals.specs.declared.Refusal.{Refusal}
use Rattle.refusals.specs.declared.Refused.{Refused}
use Rattle.refusals.specs.Numbers.{refusal_number, refusal_in, named_by, named_back}
use Rattle.blocks.specs.declared.Name.{Name}
use Rattle.placing.specs.declared.Reading.{Reading}
use Rattle.placing.specs.Readings.{Begins, Opens}
use Rattle.stack.specs.declared.Stack.{Stack}
use Rattle.stack.specs.View.{none_held}
use Rattle.writing.specs.WrittenResult.{copied_first}
use Rattle.turns.specs.declared.State.{State}
use Rattle.turns.specs.declared.Worked.{Worked}

pub record StateBegins (s : State) (cards : List ℕ) : Type 0 where
  pub reading : Begins s.reading cards
  pub held : s.held ≡ none_held
  pub at : s.at ≡ 0
  pub line : s.line ≡ 0
  pub blocks : s.blocks ≡ 0

-- refused, by that number at that line
abbrev pub Stops : {A : Type 0} → (number line : ℕ) → Result A Refused → Type 0
Stops number line (Ok x) = ⊥
Stops number line (Err r) = (r.number ≡ number) × (r.line ≡ line)

-- so it is the refusal
pub stop_is : {A : Type 0} (x : Result A Refused) (number line : ℕ) → Stops number line x → x ≡ Err (record { number = number; line = line })
stop_is (Ok x) number line p = absurd p
stop_is (Err r) number line p = let numbers : r.number ≡ number = p.0 in let lines : r.line ≡ line = p.1 in rw (← numbers, ← lines) refl

pub record Opened (r : Reading) (held : Stack) (name : Name) (at line blocks : ℕ) (s : State) (cards : List ℕ) : Type 0 where
  pub reading : Opens r name s.reading cards
  pub holds : s.held ≡ held
  pub place : s.at ≡ at
  pub lines : s.line ≡ line
  pub count : s.blocks ≡ blocks + 1

abbrev pub GoesOn : (r : Reading) (held : Stack) (name : Name) (at line blocks : ℕ) → Result State Refused → (cards : List ℕ) → Type 0
GoesOn r held name at line blocks (Ok s) cards = Opened r held name at line blocks s cards
GoesOn r held name at line blocks (Err e) cards = ⊥

abbrev pub worked_well : ℕ → ℕ → Result Worked Refused
worked_well nq blocks = Ok (record { nq = nq; blocks = blocks })

-- at an accepted end the last block's hydrograph, which alone is held, is copied if no block is named
abbrev pub copied_last : (named nq : ℕ) → (flow ordinates : List ℕ) → List ℕ
copied_last named nq flow ordinates = when named =? 0 then copied_first nq flow ordinates else ordinates

-- a block finished: what is held then, or what it is refused for
abbrev pub Finished : Type 0
Finished = Result Stack Refusal

-- what is held where a block was closed, or none was open; nothing where it was refused
abbrev pub stack_in : Finished → Stack
stack_in (Ok s) = s
stack_in (Err r) = none_held

-- what a turn is told of it: what is held then, or the number of what it is refused for, which may be any
abbrev pub Told : Type 0
Told = Result Stack ℕ

abbrev pub told : Finished → Told
told (Ok s) = Ok s
told (Err r) = Err (refusal_number r)

pub record OpensNext (r : Reading) (name : Name) (at line : ℕ) (closed : Told) (blocks : ℕ) (t : Result State Refused) (cards : List ℕ) : Type 0 where
  pub refused : IfErr closed (λ number. Stops number line t)
  pub many : IfOk closed (λ held. most_blocks ≤ blocks → Stops 14 line t)
  pub goes : IfOk closed (λ held. blocks < most_blocks → GoesOn r held name at line blocks t cards)

-- the ordinates, once more where the deck is accepted: ordinates'
pub record EndsDeck (nq line : ℕ) (closed : Told) (blocks named : ℕ) (t : Result Worked Refused) (work ordinates ordinates' : List ℕ) : Type 0 where
  pub refused : IfErr closed (λ number. Stops number line t)
  pub not-one : IfOk closed (λ held. (held.depth ≡ 1 → ⊥) → Stops 15 line t)
  pub done : IfOk closed
      (λ held. held.depth ≡ 1
      → (t ≡ worked_well nq blocks) × (ordinates' ≡ copied_last named nq (part (most_ordinates * (held.depth - 1)) nq work) ordinates))

-- no refusal has the number 0
pub some_refused : (r : Refusal) → refusal_number r ≡ 0 → ⊥
some_refused r h = let one : refusal_number r ≡ 1 = ap refusal_number (sym (named_back r) ∙ ap named_by h) in omega (arith, h, one)

-- what is said of any number told, and of what is held then, by the refusal of the block
pub told_number : (P : ℕ → Type 0) (x : Finished) → IfErr (told x) P → (refusal_in x ≡ 0 → ⊥) → P (refusal_in x)
told_number P (Ok s) h some = absurd (some refl)
told_number P (Err r) h some = h

pub told_held : (P : Stack → Type 0) (x : Finished) → IfOk (told x) P → refusal_in x ≡ 0 → P (stack_in x)
told_held P (Ok s) h none = h
told_held P (Err r) h none = absurd (some_refused r none)

-- which way it is, where it hangs on a number
pub is_or_not : (a b : ℕ) → (a ≡ b) ⊎ (a ≡ b → ⊥)
is_or_not zero zero = inl refl
is_or_not zero (suc b) = inr (λ e. omega arith)
is_or_not (suc a) zero = inr (λ e. omega arith)
is_or_not (suc a) (suc b) = ⊎_elim (λ e. inl (ap suc e)) (λ h. inr (λ e. h (omega arith))) (is_or_not a b)
