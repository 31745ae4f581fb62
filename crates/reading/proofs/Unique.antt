-- Two outcomes that meet a contract of this crate, as its `ensures` line has it, say the same of the deck: the event, the line, where the reading stood and the lines
-- behind it. What else the structs and the words hold, and the place behind a line as far as the lines left do not tell it, is scratch.
use Prim.Native.Nat.{ℕ}
use mathlib.Core.Path.{◌≡◌, sym, ◌∙◌}
use mathlib.Core.List.{List, []}
use Rattle.sequences.specs.OneOutcome.{OnceAt}
use Rattle.meaning.specs.Run as run
use Rattle.meaning.specs.Run.{BeforeTime, BeforeBlocks, InBlock, Refuse, Go, Open, End}
use Rattle.events.specs.NextEvent.{Found, Missing, Met}
use Rattle.reading.specs.declared.Event.{Event}
use Rattle.reading.specs.declared.Event.TheVariants as event
use Rattle.reading.specs.Found.{FoundIs, Told, Refusal, Opening, Ending, Nothing, told_by, told}
use Rattle.reading.proofs.read_on.Kinds as read-on
use Rattle.reading.proofs.read_on.Reads as read-on-says

name_in : run.Reading → List ℕ
name_in (BeforeTime form) = []
name_in (BeforeBlocks τ form) = []
name_in (InBlock τ form b) = b.name

-- what is found, told
told_of : Found → Told
told_of (Missing q last) = Nothing
told_of (Met (Refuse number) q line rest) = Refusal number line
told_of (Met (Go r) q line rest) = Nothing
told_of (Met (Open r) q line rest) = Opening q (name_in r) line rest
told_of (Met (End τ) q line rest) = Ending q line rest

found-told : (e : Event) (r : run.Reading) (line : ℕ) (rest : List (List ℕ)) (f : Found) → FoundIs e r line rest f → told_by e r line rest ≡ told_of f
unfolding told_of name_in
found-told (event.Refused refusal) r line rest f h = rw h.2
found-told (event.Opened name) r line rest f h = rw h
found-told event.Ended r line rest f h = rw h
found-told event.Missing r line rest f h = rw h.2

pub one_read_on : OnceAt read-on.ps read-on.r read-on-says.Post (λ κs a x y e f. told a.0.now x e.1.1.1.1.0.now ≡ told a.0.now y f.1.1.1.1.0.now)
one_read_on κs a x y e f p q = found-told x.event _ x.line _ _ p.found ∙ sym (found-told y.event _ y.line _ _ q.found)
