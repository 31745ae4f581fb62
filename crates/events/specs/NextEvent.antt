-- Reading on to the next line that is more than read: one that is refused, opens a block or ends the deck. The walk over a deck's lines is such a reading,
-- what the line does, and the walk over the rest.
--     next_event       the event, where the reading stood, the line's number, and the lines behind it
--     walk-read    the walk by it
--     unless_has, line_has    what refusals have, and every record that a line may hold, the line has
--     found_has    what every line keeps holds where the reading comes to
use Rattle.std.specs.Prelude.{ℕ, zero, suc, ◌+◌, ◌≡◌}
use Rattle.std.proofs.Math.Path.{refl}
use mathlib.Core.List.{List, [], ◌∷◌}
use Rattle.meaning.specs.Records.{Record}
use Rattle.meaning.specs.Run.{Head, Faulty, Skipped, Holds, head_of, Reading, Event, Refuse, Go, Open, End, unless, read_record, read_by, read_line, Standing, Which, Worked, Stopped, act, and_then, walk}

pub data Found : Type 0 where
  Missing : Reading → ℕ → Found
  Met : Event → Reading → (line : ℕ) → (rest : List (List ℕ)) → Found

abbrev pub met_by : Event → Reading → ℕ → List (List ℕ) → (Reading → Found) → Found
met_by (Refuse number) r line rest go = Met (Refuse number) r line rest
met_by (Go next) r line rest go = go next
met_by (Open next) r line rest go = Met (Open next) r line rest
met_by (End τ) r line rest go = Met (End τ) r line rest

unfoldable pub next_event : List (List ℕ) → Reading → ℕ → Found
next_event [] r line = Missing r line
next_event (l ∷ ls) r line = met_by (read_line r l) r line ls (λ (next : Reading). next_event ls next (line + 1))

module _ (which : Which) where
  abbrev pub work_found : Found → Standing → Worked
  work_found (Missing r line) s = Stopped 16 0
  work_found (Met e r line rest) s = and_then (act which e r s line) (λ (r' : Reading) (s' : Standing). walk which rest r' s' (line + 1))

  walk-met : (e : Event) (r : Reading) (s : Standing) (line : ℕ) (ls : List (List ℕ)) (go : Reading → Found)
      → ((next : Reading) → walk which ls next s (line + 1) ≡ work_found (go next) s)
      → and_then (act which e r s line) (λ (r' : Reading) (s' : Standing). walk which ls r' s' (line + 1)) ≡ work_found (met_by e r line ls go) s
  walk-met (Refuse number) r s line ls go ih = refl
  walk-met (Go next) r s line ls go ih = ih next
  walk-met (Open next) r s line ls go ih = refl
  walk-met (End τ) r s line ls go ih = refl

  pub walk-read : (ls : List (List ℕ)) (r : Reading) (s : Standing) (line : ℕ) → walk which ls r s line ≡ work_found (next_event ls r line) s
  unfolding walk next_event
  walk-read [] r s line = refl
  walk-read (l ∷ ls) r s line =
      walk-met (read_line r l) r s line ls (λ (next : Reading). next_event ls next (line + 1)) (λ (next : Reading). walk-read ls next s (line + 1))

-- WHAT AN EVENT HAS, where every refusal has it: an event unless it is refused, and a line by its head
module _ (Q : Event → Type 0) (refused : (number : ℕ) → Q (Refuse number)) where
  pub unless_has : (number : ℕ) (e : Event) → (number ≡ 0 → Q e) → Q (unless number e)
  unless_has zero e h = h refl
  unless_has (suc number) e h = refused (suc number)

  head_has : (r : Reading) → Q (Go r) → ((l : List ℕ) (k : Record) → Q (read_record r l k)) → (l : List ℕ) (h : Head) → Q (read_by h r l)
  head_has r skipped by l (Faulty number) = refused number
  head_has r skipped by l Skipped = skipped
  head_has r skipped by l (Holds k) = by l k

  pub line_has : (r : Reading) → Q (Go r) → ((l : List ℕ) (k : Record) → Q (read_record r l k)) → (l : List ℕ) → Q (read_line r l)
  unfolding read_line
  line_has r skipped by l = head_has r skipped by l (head_of l)

-- WHAT EVERY LINE KEEPS: P of a reading, with Q of a line's event and the reading before it
abbrev pub FoundHas : (Reading → Type 0) → (Event → Reading → Type 0) → Found → Type 0
FoundHas P Q (Missing r line) = Unit
FoundHas P Q (Met e r line rest) = Q e r × P r

met_has : (P : Reading → Type 0) (Q : Event → Reading → Type 0) (e : Event) (r : Reading) (line : ℕ) (rest : List (List ℕ)) (go : Reading → Found) → Q e r → P r
    → ((next : Reading) → Q (Go next) r → FoundHas P Q (go next)) → FoundHas P Q (met_by e r line rest go)
met_has P Q (Refuse number) r line rest go h k ih = (h, k)
met_has P Q (Go next) r line rest go h k ih = ih next h
met_has P Q (Open next) r line rest go h k ih = (h, k)
met_has P Q (End τ) r line rest go h k ih = (h, k)

pub found_has : (P : Reading → Type 0) (Q : Event → Reading → Type 0) → ((r : Reading) (l : List ℕ) → P r → Q (read_line r l) r) → ((r next : Reading) → Q (Go next) r → P next)
    → (ls : List (List ℕ)) (r : Reading) (line : ℕ) → P r → FoundHas P Q (next_event ls r line)
unfolding next_event
found_has P Q by on [] r line h = tt
found_has P Q by on (l ∷ ls) r line h =
    met_has P Q (read_line r l) r line ls (λ (next : Reading). next_event ls next (line + 1)) (by r l h) h
    (λ (next : Reading) q. found_has P Q by on ls next (line + 1) (on r next q))
