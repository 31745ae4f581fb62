-- The lines of a script come in order, and once it has started it does not start again. That a deck's do: proofs/InOrder.antt, deck-begun.
--     After     no line of a script stands before that one; on it, only 14 or 15; and it ends with that time control
--     Begun     a deck fails before its first block, or starts as many runs as it has ratios, and goes on in order
use Rattle.std.specs.Prelude.{ℕ, ◌<◌, ◌≡◌, ◌⊎◌, length}
use Rattle.meaning.specs.Blocks.{Time, ratios_of}
use Rattle.passes.specs.Scripts.{Script, Fails, Ends, Starts, Closes}
use Rattle.passes.specs.Apart.{rank_of}

abbrev pub Past : (line number line' : ℕ) → Type 0
Past line number line' = (line' ≡ 0) ⊎ (line < line') ⊎ ((line ≡ line') × (13 < rank_of number))

abbrev pub After : Time → ℕ → Script → Type 0
After τ line (Fails number line') = Past line number line'
After τ line (Ends σ) = σ ≡ τ
After τ line (Starts σ s) = ⊥
After τ line (Closes b line' s) = (line < line') × After τ line' s

-- A deck up to its first block. A ZZ before it finds nothing held, and is refused by 15.
abbrev pub Begun : Script → ℕ → Type 0
Begun (Fails number line) count = count ≡ 1
Begun (Ends τ) count = ⊥
Begun (Starts τ s) count = (count ≡ length (ratios_of τ)) × After τ 0 s
Begun (Closes b line s) count = ⊥
