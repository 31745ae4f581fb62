-- The answer as the meaning of a run has it, with what was lent.
--     answer_is, outcome_is, lent_as     the answer, what comes back, and the lengths of what was lent
--     answer-told                     an answer is told by what it means
--     lacking                         whether there is too little of it
--     size_refusal                     what is refused for the sizes, before the deck is read
--     settled_as                       what becomes of a deck that is sound
--     zeros-refuse                    zeros in all of it are a refusal; zeros_accept: zeros in the work words alone an acceptance
use Rattle.std.specs.Prelude.{ℕ, ◌≡◌, Bool, ◌||◌, List, length, replicate, Result, Ok, Err}
use Rattle.meaning.specs.Words.{◌<?◌, when◌then◌else◌, met, first}
use Rattle.meaning.specs.Run as run
use Rattle.meaning.specs.Run.{Outcome, Lent, record_bytes, refused, work_size, deck_size}
use Rattle.refusals.specs.declared.Refused.{Refused}
use Rattle.answers.specs.declared.Accepted.{Accepted}

abbrev pub Answer : Type 0
Answer = Result Accepted Refused

abbrev pub accepted_as : (nq blocks ratios : ℕ) → Answer
accepted_as nq blocks ratios = Ok (record { ordinates = nq; blocks = blocks; ratios = ratios })

abbrev pub answer_is : Answer → run.Answer
answer_is (Ok a) = run.Accepted a.ordinates a.blocks a.ratios
answer_is (Err r) = run.Refused r.number r.line

-- an answer is told by what it means
pub answer-told : (x y : Answer) → answer_is x ≡ answer_is y → x ≡ y
answer-told (Ok a) (Ok b) h =
    let ordinates : a.ordinates ≡ b.ordinates = cc in
    let blocks : a.blocks ≡ b.blocks = cc in
    let ratios : a.ratios ≡ b.ratios = cc in
    rw (ordinates, blocks, ratios)
answer-told (Ok a) (Err s) h = cc
answer-told (Err r) (Ok b) h = cc
answer-told (Err r) (Err s) h =
    let numbers : r.number ≡ s.number = cc in
    let lines : r.line ≡ s.line = cc in
    rw (numbers, lines)

abbrev pub outcome_is : Answer → (work ordinates records : List ℕ) → Outcome
outcome_is a work ordinates records = record { answer = answer_is a; work = work; ordinates = ordinates; records = records }

abbrev pub lent_as : (work ordinates records : List ℕ) → Lent
lent_as work ordinates records = record { work = length work; ordinates = length ordinates; records = length records }

-- what was lent is too short for so many ordinates, blocks and ratios, or the named block or ratio is above its count
abbrev pub lacking : (nq blocks ratios named ratio ordinates records : ℕ) → Bool
lacking nq blocks ratios named ratio ordinates records = (ordinates <? nq) || (records <? record_bytes blocks ratios) || (blocks <? named) || (ratios <? ratio)

-- 1: too few words to work in; 2: too long a deck
abbrev pub size_refusal : (work deck : ℕ) → ℕ
size_refusal work deck = first (met (work <? work_size) 1) (met (deck_size <? deck) 2)

-- a sound deck with so many ordinates, blocks and ratios: 17, or the results as they stand, with zeros in the words that the run worked in
abbrev pub settled_as : (nq blocks ratios named ratio : ℕ) (work ordinates records : List ℕ) → Outcome
settled_as nq blocks ratios named ratio work ordinates records =
    when lacking nq blocks ratios named ratio (length ordinates) (length records) then refused 17 0 (lent_as work ordinates records) else
    outcome_is (accepted_as nq blocks ratios) (replicate (length work) 0) ordinates records

-- zeros in each of the three are a refusal
module _ (r : Refused) (words flows bytes words' flows' bytes' : List ℕ) where
  pub zeros-refuse : words' ≡ replicate (length words) 0 → flows' ≡ replicate (length flows) 0 → bytes' ≡ replicate (length bytes) 0
      → outcome_is (Err r) words' flows' bytes' ≡ refused r.number r.line (lent_as words flows bytes)
  zeros-refuse w f b = rw (w, f, b)

-- zeros in the words that the run worked in, and the results as they stand
module _ (nq blocks ratios : ℕ) (work work' ordinates records : List ℕ) where
  pub zeros_accept : work' ≡ replicate (length work) 0
      → outcome_is (accepted_as nq blocks ratios) work' ordinates records ≡ outcome_is (accepted_as nq blocks ratios) (replicate (length work) 0) ordinates records
  zeros_accept e = rw e
