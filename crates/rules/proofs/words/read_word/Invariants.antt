-- The loop keeps the word that the bytes left come to; so many bytes are below that power of 256, and there are eight at most.
use Prim.Native.Nat.{◌^◌, ◌≤◌, ◌<◌}
use mathlib.Core.Path.{◌≡◌}
use lib.ListN.{length, drop}
use Rattle.rules.specs.Words.{spelled}
use Rattle.rules.proofs.words.read_word.Given as goal

abbrev pub invariant-loop-b : goal.invariant-loop-b
invariant-loop-b l = (length l.f ≤ l.most) × (l.word < 256 ^ l.b-index) × (spelled l.word (drop l.b-index l.f) ≡ spelled 0 l.f)
