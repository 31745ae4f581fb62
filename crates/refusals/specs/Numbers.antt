-- The paper's number of each refusal.
--     refusal_number    the number
--     refusal_in        that of what came back: 0 where nothing is refused
--     some_number       no refusal has the number 0; same_result: two that say the same are one
--     in_order          all of them; named_by: the refusal of a number; same_number: two with one number are one
--     Named             the number of a refusal; IsNamed: the refusal of a number, or none where no refusal has it
use Rattle.std.specs.Prelude.{◌≡◌, refl, List, [], ◌∷◌, ℕ, ◌-◌, get_or, Option, Some, None, Result, Ok, Err}
use Rattle.std.proofs.Common.{sym, ap, ◌∙◌, arith}
use Rattle.refusals.specs.declared.Refusal.{Refusal}
use Rattle.refusals.specs.declared.Refusal.TheVariants as refusal

abbrev pub refusal_number : Refusal → ℕ
refusal_number refusal.LittleWork = 1
refusal_number refusal.LongDeck = 2
refusal_number refusal.ForeignLine = 3
refusal_number refusal.UnknownLine = 4
refusal_number refusal.Misplaced = 5
refusal_number refusal.Malformed = 6
refusal_number refusal.OutsideLimits = 7
refusal_number refusal.TooManyValues = 8
refusal_number refusal.NoKind = 9
refusal_number refusal.TooFewHeld = 10
refusal_number refusal.TooManyHeld = 11
refusal_number refusal.Unroutable = 12
refusal_number refusal.FlowAboveLimit = 13
refusal_number refusal.TooManyBlocks = 14
refusal_number refusal.NotOneHeld = 15
refusal_number refusal.NoLastLine = 16
refusal_number refusal.LittleRoom = 17
refusal_number refusal.NoPattern = 18
refusal_number refusal.BrokenTable = 19
refusal_number refusal.Overtopped = 20

abbrev pub refusal_in : {T : Type 0} → Result T Refusal → ℕ
refusal_in (Ok x) = 0
refusal_in (Err r) = refusal_number r

-- in the order of their numbers
abbrev pub in_order : List Refusal
in_order = refusal.LittleWork ∷ refusal.LongDeck ∷ refusal.ForeignLine ∷ refusal.UnknownLine ∷ refusal.Misplaced ∷ refusal.Malformed ∷ refusal.OutsideLimits ∷ refusal.TooManyValues ∷ refusal.NoKind ∷ refusal.TooFewHeld ∷ refusal.TooManyHeld ∷ refusal.Unroutable ∷ refusal.FlowAboveLimit ∷ refusal.TooManyBlocks ∷ refusal.NotOneHeld ∷ refusal.NoLastLine ∷ refusal.LittleRoom ∷ refusal.NoPattern ∷ refusal.BrokenTable ∷ refusal.Overtopped ∷ []

abbrev pub named_by : ℕ → Refusal
named_by n = get_or in_order (n - 1) refusal.LittleWork

pub named_back : (r : Refusal) → named_by (refusal_number r) ≡ r
named_back refusal.LittleWork = refl
named_back refusal.LongDeck = refl
named_back refusal.ForeignLine = refl
named_back refusal.UnknownLine = refl
named_back refusal.Misplaced = refl
named_back refusal.Malformed = refl
named_back refusal.OutsideLimits = refl
named_back refusal.TooManyValues = refl
named_back refusal.NoKind = refl
named_back refusal.TooFewHeld = refl
named_back refusal.TooManyHeld = refl
named_back refusal.Unroutable = refl
named_back refusal.FlowAboveLimit = refl
named_back refusal.TooManyBlocks = refl
named_back refusal.NotOneHeld = refl
named_back refusal.NoLastLine = refl
named_back refusal.LittleRoom = refl
named_back refusal.NoPattern = refl
named_back refusal.BrokenTable = refl
named_back refusal.Overtopped = refl

pub same_number : (x y : Refusal) → refusal_number x ≡ refusal_number y → x ≡ y
same_number x y h = sym (named_back x) ∙ ap named_by h ∙ named_back y

pub some_number : (x : Refusal) → refusal_number x ≡ 0 → ⊥
some_number x h = let first : x ≡ refusal.LittleWork = sym (named_back x) ∙ ap named_by h in omega (arith, h, ap refusal_number first)

-- a number by which something is refused; and what a number is told as
abbrev pub Named : ℕ → Type 0
Named n = (x : Refusal) × (refusal_number x ≡ n)

abbrev pub IsNamed : ℕ → Option Refusal → Type 0
IsNamed n (Some x) = refusal_number x ≡ n
IsNamed n None = Named n → ⊥

-- where nothing is refused in either, what came back is still to be compared
pub same_result : {T : Type 0} (x y : Result T Refusal) → refusal_in x ≡ refusal_in y → ((a b : T) → x ≡ Ok a → y ≡ Ok b → a ≡ b) → x ≡ y
same_result (Ok a) (Ok b) h same = ap Ok (same a b refl refl)
same_result (Ok a) (Err s) h same = absurd (some_number s (sym h))
same_result (Err r) (Ok b) h same = absurd (some_number r h)
same_result (Err r) (Err s) h same = ap Err (same_number r s h)
