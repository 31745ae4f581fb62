-- The first line of a text: there is none, it meets refusal 3, or it is a line with a head.
--     FirstLine, first_line    a fair line at the beginning: its bytes, and that it passed 3
--     no_line, foreign-reason, fair_reason    what is told of each
use Rattle.std.specs.Prelude.{ℕ, ◌-◌, ◌≤◌, ◌<◌, ◌≡◌, Bool, false, length, take, drop}
use Rattle.std.proofs.Math.Path.{refl, ap}
use Rattle.std.proofs.Common.{◌∙◌, arith, length-take-le}
use mathlib.Core.List.{List, [], ◌∷◌}
use Rattle.sequences.specs.Parts.{part}
use Rattle.meaning.specs.Words.{when◌then◌else◌}
use Rattle.meaning.specs.Lines.{lines_of, foreign}
use Rattle.meaning.specs.Fields.{Form}
use Rattle.meaning.specs.Run.{head_of}
use Rattle.meaning.specs.Reasons.{head_reason, first_reason, reason}
use Rattle.lines.specs.First.{FairAt, ForeignAt}
use Rattle.identifiers.specs.Heads.{plain_head}

pub record FirstLine (s : List ℕ) (end next : ℕ) : Type 0 where
  pub lines : lines_of s ≡ take end s ∷ lines_of (drop next s)
  pub sound : foreign (take end s) ≡ false
  pub within : end ≤ length s
  pub short : length (take end s) ≤ 80

pub first_line : {s : List ℕ} {end next : ℕ} → FairAt s 0 end next → FirstLine s end next
first_line {s} {end} {next} f =
    let whole : part 0 (end - 0) s ≡ take end s = let e : end - 0 ≡ end = omega arith in ap (λ (n : ℕ). take n s) e in
    record { lines = rw whole at f.lines; sound = rw whole at f.sound; within = f.ends; short = omega (arith, length-take-le end s f.ends, f.short) }

-- a line that passed 3 has its head by its identifier
head_plain : (l : List ℕ) → foreign l ≡ false → head_of l ≡ plain_head l
unfolding head_of plain_head when◌then◌else◌
head_plain l sound = rw sound

module _ (six : Bool) (form : Form) where
  pub no_line : (s : List ℕ) → length s < 1 → reason six form s ≡ []
  unfolding reason lines_of
  no_line [] h = refl
  no_line (b ∷ s) h = absurd (omega arith)

  pub fair_reason : {s : List ℕ} {end next : ℕ} → FirstLine s end next → reason six form s ≡ head_reason six form (take end s) (plain_head (take end s))
  unfolding reason
  fair_reason {s} {end} f = ap (first_reason six form) f.lines ∙ ap (head_reason six form (take end s)) (head_plain (take end s) f.sound)

  pub foreign-reason : {s : List ℕ} → ForeignAt s 0 → reason six form s ≡ []
  unfolding reason head_of when◌then◌else◌
  foreign-reason f = ap (first_reason six form) f.lines ∙ rw f.met
