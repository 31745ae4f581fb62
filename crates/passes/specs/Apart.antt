-- What the code does: a walk over the whole deck for each ratio, and of what they find that which is met first.
--     rank_of           which of two refusals on one line is met first
--     sooner, apart    what two walks come to, and what all of them do, one after another
--     ratio_count       how many ratios a deck has, so how many walks there are
--     count-found      the same by the next event of the deck, as the code reads it
use Rattle.std.specs.Prelude.{ℕ, zero, suc, ◌+◌, ◌≡◌, refl, Bool, true, false, List, [], ◌∷◌, ◌++◌, length}
use Rattle.meaning.specs.Words.{◌=?◌, ◌≤?◌, ◌<?◌, when◌then◌else◌}
use Rattle.meaning.specs.Lines.{lines_of}
use Rattle.meaning.specs.Fields.{Fixed}
use Rattle.meaning.specs.Blocks.{ratios_of}
use Rattle.meaning.specs.Run.{Reading, BeforeTime, BeforeBlocks, InBlock, Event, Refuse, Go, Open, End, read_line, Only, Worked, Stopped, Done, worked_under}
use Rattle.events.specs.NextEvent.{Found, Missing, Met, met_by, next_event}

-- On one line the numbers are met in their order, but for 20: flows decide it, as they do 13, so it has the place of 13, before 14 and 15.
unfoldable pub rank_of : (number : ℕ) → ℕ
rank_of number = when number =? 20 then 13 else number

-- Of two refusals the first: the earlier line, on one line the smaller rank, and of equal ranks the first of the two. Line 0, that of 16, comes last.
unfoldable pub comes_first : (number line number' line' : ℕ) → Bool
comes_first number line number' line' =
    when line =? line' then rank_of number ≤? rank_of number' else
    when line =? 0 then false else
    when line' =? 0 then true else
    line <? line'

abbrev pub sooner : Worked → Worked → Worked
sooner (Stopped number line) (Stopped number' line') = when comes_first number line number' line' then Stopped number line else Stopped number' line'
sooner (Stopped number line) (Done τ rss) = Stopped number line
sooner (Done τ rss) (Stopped number line) = Stopped number line
sooner (Done τ rss) (Done σ qss) = Done τ (rss ++ qss)

-- So many ratios are still to be walked, from place k on, with what was found before.
abbrev pub apart : List ℕ → Worked → (k left : ℕ) → Worked
apart deck found k zero = found
apart deck found k (suc left) = apart deck (sooner found (worked_under (Only k) deck)) (k + 1) left

-- How many ratios a deck has: those in force where its first block opens; 1 where none opens.
abbrev pub count_at : Reading → ℕ
count_at (BeforeTime form) = 1
count_at (BeforeBlocks τ form) = length (ratios_of τ)
count_at (InBlock τ form b) = 1

abbrev pub count_by : Event → Reading → (Reading → ℕ) → ℕ
count_by (Refuse number) r go = 1
count_by (Go next) r go = go next
count_by (Open next) r go = count_at r
count_by (End τ) r go = 1

abbrev pub count_from : List (List ℕ) → Reading → ℕ
count_from [] r = 1
count_from (l ∷ ls) r = count_by (read_line r l) r (λ (r' : Reading). count_from ls r')

unfoldable pub ratio_count : List ℕ → ℕ
ratio_count deck = count_from (lines_of deck) (BeforeTime Fixed)

-- By the next event: only a KK, where the first block opens, counts more than 1. (No event that is met goes on.)
abbrev pub count_found : Found → ℕ
count_found (Missing r line) = 1
count_found (Met e r line rest) = count_by e r (λ (next : Reading). 1)

count-met : (e : Event) (r : Reading) (line : ℕ) (rest : List (List ℕ)) (counts : Reading → ℕ) (go : Reading → Found) → ((next : Reading) → counts next ≡ count_found (go next))
    → count_by e r counts ≡ count_found (met_by e r line rest go)
count-met (Refuse number) r line rest counts go ih = refl
count-met (Go next) r line rest counts go ih = ih next
count-met (Open next) r line rest counts go ih = refl
count-met (End τ) r line rest counts go ih = refl

pub count-found : (ls : List (List ℕ)) (r : Reading) (line : ℕ) → count_from ls r ≡ count_found (next_event ls r line)
unfolding next_event
count-found [] r line = refl
count-found (l ∷ ls) r line =
    count-met (read_line r l) r line ls (λ (next : Reading). count_from ls next) (λ (next : Reading). next_event ls next (line + 1)) (λ (next : Reading). count-found ls next (line + 1))
