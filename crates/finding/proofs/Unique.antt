-- Two outcomes that meet the contract of the search, as its `ensures` line has it, say the same: whether the block is there, and if so its time control, its name and its
-- values. What else the words hold, and the struct of a block that is not there, is scratch.
use mathlib.Core.Path.{◌≡◌, sym, ◌∙◌}
use Rattle.std.specs.Prelude.{Option, None, Some}
use mathlib.Core.List.{List}
use Prim.Native.Nat.{ℕ}
use Rattle.sequences.specs.OneOutcome.{Once}
use Rattle.meaning.specs.Lines.{lines_of}
use Rattle.meaning.specs.Fields.{Fixed}
use Rattle.meaning.specs.Run.{BeforeTime}
use Rattle.blocks.specs.Meant.{time_is, name_is}
use Rattle.blocks.specs.Cards.{block_of}
use Rattle.finding.specs.declared.Found.{Found}
use Rattle.finding.specs.Place.{Place, Nowhere, At, block_at, FoundIs}
use Rattle.finding.proofs.find_block.Kinds as find-block
use Rattle.finding.proofs.find_block.Reads as find-block-says

abbrev told : Option Found → (cards : List ℕ) → Place
told (Some x) cards = At (time_is x.time) (block_of (name_is x.name) cards)
told None cards = Nowhere

told_is : (p : Place) (x : Option Found) (cards : List ℕ) → FoundIs p x cards → told x cards ≡ p
told_is Nowhere x cards h = rw h
told_is (At τ b) None cards h = absurd h
told_is (At τ b) (Some x) cards h = rw (h.time, h.block)

pub one_find_block : Once find-block.ps find-block.r find-block-says.Post (λ κs x y e f. told x e.1.1.0.now ≡ told y f.1.1.0.now)
one_find_block κs a x y e f p q = let sought = block_at (lines_of a.0.now) (BeforeTime Fixed) a.1.0 in told_is sought x _ p ∙ sym (told_is sought y _ q)
