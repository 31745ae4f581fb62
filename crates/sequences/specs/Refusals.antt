-- Refusals by number, 0 for none: what a chain of them, `first`, and a test's own, `met`, tell where none is met.
--     neither_met   a chain that meets none: neither of its two parts is met
--     not_met       a refusal that is not met: its test failed
--     none_after    a chain with none after it is its first part
use Rattle.std.specs.Prelude.{ℕ, zero, suc, ◌≡◌, refl, Bool, true, false}
use Rattle.std.proofs.Common.{arith}
use Rattle.meaning.specs.Words.{met, first}

pub neither_met : (m n : ℕ) → first m n ≡ 0 → (m ≡ 0) × (n ≡ 0)
neither_met zero n e = (refl, e)
neither_met (suc m) n e = absurd (omega arith)

pub not_met : (t : Bool) (n : ℕ) → met t (suc n) ≡ 0 → t ≡ false
not_met true n e = absurd (omega arith)
not_met false n e = refl

pub none_after : (m : ℕ) → first m 0 ≡ m
none_after zero = refl
none_after (suc m) = refl
