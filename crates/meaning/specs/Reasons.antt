-- Why a line is refused by 6 or by 7: the first field that is, its rule and what stands in it, or the name of a block. Of a line by itself, in the form that is in force.
use Rattle.std.specs.Prelude.{ℕ, ◌+◌, Bool, true, false, List, [], ◌∷◌, ◌++◌}
use Prim.Native.String.{String}
use Rattle.meaning.specs.Words.{◌<?◌, when◌then◌else◌, bytes}
use Rattle.meaning.specs.Lines.{lf, blank, lines_of}
use Rattle.meaning.specs.Fields.{Form, fields_of, name_in}
use Rattle.meaning.specs.Numbers.{Number, NoNumber, Decimal, number_of}
use Rattle.meaning.specs.Records.{Rule, Unnamed, NotRead, Limited, Worded, Record, ID, IT, JR, KK, KM, ZZ, Control, Of, time_rules, ratio_rules, rules_of, filled_up, value_fields, rule_at, faulty_field, outside_field}
use Rattle.meaning.specs.Run.{Head, Faulty, Skipped, Holds, head_of, ratio_fields}
use Rattle.meaning.specs.Listing.{whole}

-- A rule in print: how many places are allowed, or how many characters; the lowest value and the highest, as the table of records has them.
abbrev pub rule_text : (word : String) → (most low high : ℕ) → List ℕ
rule_text word most low high = bytes word ++ (blank ∷ whole most) ++ (blank ∷ whole low) ++ (blank ∷ whole high)

-- What is wrong where a number is due: there is none; more places are left than are allowed; or it is outside its limits.
abbrev pub number_reason : (places low high : ℕ) → Number → List ℕ
number_reason places low high NoNumber = rule_text "NUMBER" places low high
number_reason places low high (Decimal minus digits left) =
    when places <? left then rule_text "PLACES" places low high ++ (blank ∷ whole left) else rule_text "LIMITS" places low high

-- What is wrong with a field by its rule. (A field that is not read is never refused.)
unfoldable pub field_reason : Rule → List ℕ → List ℕ
field_reason Unnamed f = bytes "BLANK"
field_reason NotRead f = bytes "ANY"
field_reason (Limited places low high) f = number_reason places low high (number_of f)
field_reason (Worded refusal most low high) f = rule_text "WORD" most low high

-- The field's number, from 1, what is wrong with it, and what stands in it.
unfoldable pub field_line : (k : ℕ) → Rule → List ℕ → List ℕ
field_line k rule f = bytes "FIELD " ++ whole k ++ (blank ∷ field_reason rule f) ++ (blank ∷ f) ++ (lf ∷ [])

-- The first field that meets a test, from field k on, counted from 0.
unfoldable pub first_field : (Rule → List ℕ → Bool) → List Rule → ℕ → List (List ℕ) → List ℕ
first_field test rules k [] = []
first_field test rules k (f ∷ fs) = when test (rule_at rules k) f then field_line (k + 1) (rule_at rules k) f else first_field test rules (k + 1) fs

-- Refusal 6 at a field, or else refusal 7.
abbrev pub refused_by : (six : Bool) → Rule → List ℕ → Bool
refused_by true = faulty_field
refused_by false = outside_field

-- By the record: its rules, and its fields as they are read.
abbrev pub record_reason : (six : Bool) → Form → List ℕ → Record → List ℕ
record_reason six form l ID = []
record_reason six form l IT = first_field (refused_by six) time_rules 0 (filled_up time_rules (fields_of form l))
record_reason six form l JR = first_field (refused_by six) ratio_rules 0 (ratio_fields (fields_of form l))
record_reason six form l KK = bytes "NAME " ++ name_in form l ++ (lf ∷ [])
record_reason six form l KM = []
record_reason six form l ZZ = []
record_reason six form l (Control next) = []
record_reason six form l (Of item) = first_field (refused_by six) (rules_of item) 0 (value_fields item (fields_of form l))

abbrev pub head_reason : (six : Bool) → Form → List ℕ → Head → List ℕ
head_reason six form l (Faulty number) = []
head_reason six form l Skipped = []
head_reason six form l (Holds r) = record_reason six form l r

abbrev pub first_reason : (six : Bool) → Form → List (List ℕ) → List ℕ
first_reason six form [] = []
first_reason six form (l ∷ ls) = head_reason six form l (head_of l)

-- THE REASON, of the first line of a text.
unfoldable pub reason : (six : Bool) → Form → List ℕ → List ℕ
reason six form text = first_reason six form (lines_of text)
