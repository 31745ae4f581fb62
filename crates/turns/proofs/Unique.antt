-- Two outcomes that meet a contract of this crate, as its `ensures` line has it, say the same: what the deck came to, or where the walk goes on. The ordinates of a refused
-- deck the contracts leave open.
use Prim.Native.Nat.{ℕ}
use mathlib.Core.Path.{◌≡◌, sym, ap, ◌∙◌}
use mathlib.Core.List.{List}
use mathlib.Core.Logic.{⊎_elim}
use Rattle.std.specs.Prelude.{Result, Ok, Err}
use Rattle.sequences.specs.OneOutcome.{Once}
use Rattle.sequences.specs.Choices.{below_or_not}
use Rattle.meaning.specs.Run as run
use Rattle.meaning.specs.Run.{most_blocks}
use Rattle.refusals.specs.declared.Refused.{Refused}
use Rattle.blocks.specs.declared.Name.{Name}
use Rattle.placing.specs.declared.Reading.{Reading}
use Rattle.placing.specs.Readings.{reading_is}
use Rattle.stack.specs.declared.Stack.{Stack}
use Rattle.turns.specs.declared.State.{State}
use Rattle.turns.specs.declared.Worked.{Worked}
use Rattle.turns.specs.Turns.{Stops, GoesOn, Told, OpensNext, EndsDeck, is_or_not}
use Rattle.turns.proofs.first_state.Kinds as first-state
use Rattle.turns.proofs.first_state.Reads as first-state-says
use Rattle.turns.proofs.stop.Kinds as stop
use Rattle.turns.proofs.stop.Reads as stop-says
use Rattle.turns.proofs.open_next.Kinds as Open-next
use Rattle.turns.proofs.open_next.Reads as open-next-says
use Rattle.turns.proofs.end_deck.Kinds as end-deck
use Rattle.turns.proofs.end_deck.Reads as end-deck-says

-- where the walk stands, by what the reading means
pub record Stand : Type 0 where
  pub reading : run.Reading
  pub held : Stack
  pub at : ℕ
  pub line : ℕ
  pub blocks : ℕ

abbrev stand : State → List ℕ → Stand
stand s cards = record { reading = reading_is s.reading cards; held = s.held; at = s.at; line = s.line; blocks = s.blocks }

-- where the walk goes on, or what the deck is refused for
abbrev said : Result State Refused → List ℕ → Result Stand Refused
said (Ok s) cards = Ok (stand s cards)
said (Err r) cards = Err r

pub one_first_state : Once first-state.ps first-state.r first-state-says.Post (λ κs x y e f. stand x e.0.now ≡ stand y f.0.now)
one_first_state κs a x y e f p q =
    rw (p.reading.is, p.held, p.at, p.line, p.blocks, q.reading.is, q.held, q.at, q.line, q.blocks)

refused_once : (r s : Refused) {number line : ℕ} → (r.number ≡ number) × (r.line ≡ line) → (s.number ≡ number) × (s.line ≡ line) → r ≡ s
refused_once r s p q = let numbers : r.number ≡ s.number = p.0 ∙ sym q.0 in let lines : r.line ≡ s.line = p.1 ∙ sym q.1 in rw (numbers, lines)

stops_once : {A : Type 0} (x y : Result A Refused) (number line : ℕ) → Stops number line x → Stops number line y → x ≡ y
stops_once (Ok s) y number line p q = absurd p
stops_once (Err r) (Ok s) number line p q = absurd q
stops_once (Err r) (Err s) number line p q = ap Err (refused_once r s p q)

said_once : (x y : Result State Refused) (cards cards' : List ℕ) (number line : ℕ) → Stops number line x → Stops number line y → said x cards ≡ said y cards'
said_once (Ok s) y cards cards' number line p q = absurd p
said_once (Err r) (Ok s) cards cards' number line p q = absurd q
said_once (Err r) (Err s) cards cards' number line p q = ap Err (refused_once r s p q)

pub one_stop : Once stop.ps stop.r stop-says.Post (λ κs x y e f. x ≡ y)
one_stop κs a x y e f p q = stops_once x y _ _ p q

goes_once : (x y : Result State Refused) (cards cards' : List ℕ) (r : Reading) (held : Stack) (name : Name) (at line blocks : ℕ) → GoesOn r held name at line blocks x cards
    → GoesOn r held name at line blocks y cards' → said x cards ≡ said y cards'
goes_once (Err s) y cards cards' r held name at line blocks p q = absurd p
goes_once (Ok s) (Err t) cards cards' r held name at line blocks p q = absurd q
goes_once (Ok s) (Ok t) cards cards' r held name at line blocks p q =
    rw (p.reading.is, p.holds, p.place, p.lines, p.count, q.reading.is, q.holds, q.place, q.lines, q.count)

opens_once : (x y : Result State Refused) (cards cards' : List ℕ) (r : Reading) (name : Name) (at line : ℕ) (closed : Told) (blocks : ℕ)
    → OpensNext r name at line closed blocks x cards → OpensNext r name at line closed blocks y cards' → said x cards ≡ said y cards'
opens_once x y cards cards' r name at line (Ok held) blocks p q =
    ⊎_elim (λ few. goes_once x y cards cards' r held name at line blocks (p.goes few) (q.goes few))
    (λ many. said_once x y cards cards' _ line (p.many many) (q.many many))
    (below_or_not blocks most_blocks)
opens_once x y cards cards' r name at line (Err number) blocks p q = said_once x y cards cards' number line p.refused q.refused

pub one_open_next : Once Open-next.ps Open-next.r open-next-says.Post (λ κs x y e f. said x e.1.1.1.1.1.1.0.now ≡ said y f.1.1.1.1.1.1.0.now)
one_open_next κs a x y e f p q = opens_once x y _ _ a.1.0 a.1.1.0 a.1.1.1.0 a.1.1.1.1.0 a.1.1.1.1.1.0 a.0.blocks p q

-- the ordinates too, where the deck is accepted
abbrev Same : (x y : Result Worked Refused) (ordinates' ordinates'' : List ℕ) → Type 0
Same x y ordinates' ordinates'' = (x ≡ y) × ((w : Worked) → x ≡ Ok w → ordinates' ≡ ordinates'')

refused-once : (x y : Result Worked Refused) (ordinates' ordinates'' : List ℕ) (number line : ℕ) → Stops number line x → Stops number line y → Same x y ordinates' ordinates''
refused-once (Ok w) y ordinates' ordinates'' number line p q = absurd p
refused-once (Err r) y ordinates' ordinates'' number line p q = (stops_once (Err r) y number line p q, λ w h. cc)

ends_once : (x y : Result Worked Refused) (ordinates' ordinates'' : List ℕ) (nq line : ℕ) (closed : Told) (blocks named : ℕ) (work ordinates : List ℕ)
    → EndsDeck nq line closed blocks named x work ordinates ordinates' → EndsDeck nq line closed blocks named y work ordinates ordinates'' → Same x y ordinates' ordinates''
ends_once x y ordinates' ordinates'' nq line (Ok held) blocks named work ordinates p q =
    ⊎_elim
    (λ one.
    let d = p.done one in
    let g = q.done one in (d.0 ∙ sym g.0, λ w h. d.1 ∙ sym g.1))
    (λ other. refused-once x y ordinates' ordinates'' _ line (p.not-one other) (q.not-one other))
    (is_or_not held.depth 1)
ends_once x y ordinates' ordinates'' nq line (Err number) blocks named work ordinates p q = refused-once x y ordinates' ordinates'' number line p.refused q.refused

pub one_end-deck : Once end-deck.ps end-deck.r end-deck-says.Post (λ κs x y e f. Same x y e.1.1.1.1.1.1.0.now f.1.1.1.1.1.1.0.now)
one_end-deck κs a x y e f p q =
    ends_once x y _ _ a.1.0 a.1.1.0 a.1.1.1.0 a.0.blocks a.1.1.1.1.0 a.1.1.1.1.1.0.now a.1.1.1.1.1.1.0.now p q
