-- What the code's pass over a line's fields means.
--     Notes       what noting one field comes to
use Rattle.std.specs.Prelude.{ℕ, suc, ◌+◌, Bool, true, false, ◌||◌, List, [], ◌∷◌, ◌≡◌, refl, length, Result, Ok, Err}
use Rattle.std.proofs.Common.{arith, ne_eqb}
use Rattle.meaning.specs.Words.{◌=?◌, when◌then◌else◌, empty}
use Rattle.meaning.specs.Records.{Rule, rule_at, faulty_field, outside_field, value_of}
use Rattle.refusals.specs.declared.Refusal.{Refusal}
use Rattle.refusals.specs.declared.Refusal.TheVariants.{Malformed}
use Rattle.scanning.specs.Pass.{Scanned, kept, noted}
use Rattle.scanning.specs.declared.Scan.{Scan}

abbrev pub scanned_of : List ℕ → Scan → Scanned
scanned_of values s = record { values = values; count = s.count; outside = s.outside }

-- a field is blank where it has no bytes
abbrev pub blank_by : ℕ → Bool
blank_by n = n =? 0

pub blank-length : (f : List ℕ) → blank_by (length f) ≡ empty f
blank-length [] = refl
blank-length (b ∷ f) = ne_eqb (suc (length f)) 0 (λ e. absurd (omega arith))

-- what the code keeps of a field is what the definition notes
pub noted_by : (rules : List Rule) (k : ℕ) (f values : List ℕ) (s : Scan) (values' : List ℕ) (s' : Scan) (v : ℕ) (out : Bool)
    → values' ≡ kept k v values → s'.count ≡ (when blank_by (length f) then s.count else k + 1) → s'.outside ≡ (s.outside || out)
    → out ≡ outside_field (rule_at rules k) f → v ≡ value_of (rule_at rules k) f → scanned_of values' s' ≡ noted rules k f (scanned_of values s)
noted_by rules k f values s values' s' v out e₁ e₂ e₃ e₄ e₅ = rw (e₁, e₂, e₃, e₄, e₅, blank-length f)

-- Field k noted: what the pass keeps then; or a fault, by which the line is refused, and the values stay.
abbrev pub Notes : (rules : List Rule) (k : ℕ) (f values : List ℕ) (s : Scan) (values' : List ℕ) → Result Scan Refusal → Type 0
Notes rules k f values s values' (Ok s') = (faulty_field (rule_at rules k) f ≡ false) × (scanned_of values' s' ≡ noted rules k f (scanned_of values s))
Notes rules k f values s values' (Err refusal) = (faulty_field (rule_at rules k) f ≡ true) × (refusal ≡ Malformed) × (values' ≡ values)
