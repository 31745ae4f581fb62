-- How long the texts of a reason are, and the line of a field in its parts.
--     rule_short     a rule in print; number_short, field_short: what is wrong with a field
--     many-places, few_places    what is wrong with a number, by the places that are left
--     field_parts    the line of a field as the code writes it
use Rattle.std.specs.Prelude.{ℕ, ◌+◌, ◌≤◌, ◌<◌, ◌≡◌, Bool, true, false, List, [], ◌∷◌, ◌++◌, length}
use Prim.Native.String.{String}
use Rattle.std.proofs.Common.{append_assoc, arith, lt-ltb, le-ltb, length-append}
use Rattle.meaning.specs.Words.{◌<?◌, when◌then◌else◌, bytes}
use Rattle.meaning.specs.Lines.{lf, blank}
use Rattle.meaning.specs.Numbers.{Number, NoNumber, Decimal, number_of}
use Rattle.meaning.specs.Records.{Rule, Unnamed, NotRead, Limited, Worded}
use Rattle.meaning.specs.Listing.{whole}
use Rattle.meaning.specs.Reasons.{rule_text, number_reason, field_reason, field_line}
use Rattle.text.specs.Digits.{whole_within}
use Rattle.reasons.specs.Sizes.{rules_size, why_size}

pub rule_short : (word : String) (most low high : ℕ) → length (rule_text word most low high) ≤ length (bytes word) + rules_size
rule_short word most low high = simp length-append (omega (arith, whole_within most, whole_within low, whole_within high))

number_short : (places low high : ℕ) (n : Number) → length (number_reason places low high n) ≤ why_size
unfolding when◌then◌else◌
number_short places low high NoNumber = omega (arith, rule_short "NUMBER" places low high)
number_short places low high (Decimal minus digits left) = by (places <? left)
  where
    by : (t : Bool) → length (when t then rule_text "PLACES" places low high ++ (blank ∷ whole left) else rule_text "LIMITS" places low high) ≤ why_size
    by true = rw (length-append (rule_text "PLACES" places low high) (blank ∷ whole left)) (omega (arith, rule_short "PLACES" places low high, whole_within left))
    by false = omega (arith, rule_short "LIMITS" places low high)

pub field_short : (rule : Rule) (f : List ℕ) → length (field_reason rule f) ≤ why_size
unfolding field_reason
field_short Unnamed f = omega arith
field_short NotRead f = omega arith
field_short (Limited places low high) f = number_short places low high (number_of f)
field_short (Worded refusal most low high) f = omega (arith, rule_short "WORD" most low high)

-- a number with more places than are allowed, and one with few enough
module _ (places low high : ℕ) (minus : Bool) (digits left : ℕ) where
  pub many-places : places < left → number_reason places low high (Decimal minus digits left) ≡ rule_text "PLACES" places low high ++ (blank ∷ whole left)
  unfolding when◌then◌else◌
  many-places over = rw (lt-ltb places left over)

  pub few_places : left ≤ places → number_reason places low high (Decimal minus digits left) ≡ rule_text "LIMITS" places low high
  unfolding when◌then◌else◌
  few_places within = rw (le-ltb places left within)

regroup : (a b c d e : List ℕ) → a ++ b ++ (blank ∷ c) ++ (blank ∷ d) ++ e ≡ a ++ b ++ (blank ∷ []) ++ c ++ (blank ∷ []) ++ d ++ e
regroup a b c d e = simp append_assoc

pub field_parts : (k : ℕ) (rule : Rule) (f : List ℕ)
    → field_line k rule f ≡ bytes "FIELD " ++ whole k ++ (blank ∷ []) ++ field_reason rule f ++ (blank ∷ []) ++ f ++ (lf ∷ [])
unfolding field_line
field_parts k rule f = regroup (bytes "FIELD ") (whole k) (field_reason rule f) f (lf ∷ [])
