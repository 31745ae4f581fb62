-- The lines of a script come in order, and once it has started it does not start again.
--     deck-begun    a deck fails before its first block, or starts as many runs as it has ratios, and goes on in order
use Rattle.std.specs.Prelude.{ℕ, zero, suc, ◌+◌, ◌<◌, refl, Bool, true, false, not, List, [], ◌∷◌}
use Rattle.std.proofs.Common.{inl, inr, arith}
use Rattle.meaning.specs.Words.{◌=?◌, ◌≤?◌, when◌then◌else◌, met}
use Rattle.meaning.specs.Lines.{lines_of}
use Rattle.meaning.specs.Fields.{Form, Fixed}
use Rattle.meaning.specs.Blocks.{Time, Block}
use Rattle.meaning.specs.Run.{Reading, BeforeTime, BeforeBlocks, InBlock, Event, read_line, shape_refusal, depth_after, most_blocks, many_refusal, end_refusal}
use Rattle.passes.specs.Scripts.{Script, Ends, Closes, failing, scripted, script_from, script_of}
use Rattle.passes.specs.Apart.{rank_of, count_by, count_from, ratio_count}
use Rattle.passes.specs.Does.{Does, refuses, waits, times, passes, begins, ends_empty, fills, turns, ends, does}
use Rattle.passes.specs.InOrder.{After, Begun}

abbrev Asking : Type 0
Asking = Reading → ℕ → ℕ → Script

after-closing : (τ : Time) (shape : ℕ) (at line : ℕ) (b : Block) (next : Script) → at < line → After τ line next → After τ at (failing shape line (Closes b line next))
after-closing τ zero at line b next h a = (h, a)
after-closing τ (suc shape) at line b next h a = inr (inl h)

after-many : (τ : Time) (t : Bool) (line : ℕ) (next : Script) → After τ line next → After τ line (failing (met t 14) line next)
unfolding rank_of when◌then◌else◌
after-many τ true line next a = inr (inr (refl, omega arith))
after-many τ false line next a = a

after-end : (t : Bool) (line : ℕ) (τ : Time) → After τ line (failing (met t 15) line (Ends τ))
unfolding rank_of when◌then◌else◌
after-end true line τ = inr (inr (refl, omega arith))
after-end false line τ = refl

line_after : (τ : Time) (f : Form) (b : Block) (e : Event) (blocks waiting at line : ℕ) (asks : Asking) → Does (InBlock τ f b) e → at < line
    → ((g : Form) (c : Block) (blocks' waiting' at' : ℕ) → at' < line + 1 → After τ at' (asks (InBlock τ g c) blocks' waiting'))
    → After τ at (scripted e (InBlock τ f b) blocks waiting line asks)
line_after τ f b e blocks waiting at line asks refuses h ih = inr (inl h)
line_after τ f b e blocks waiting at line asks (fills {g} {c}) h ih = ih g c blocks waiting at (omega arith)
line_after τ f b e blocks waiting at line asks (turns {g} {c}) h ih =
    let next = asks (InBlock τ g c) (blocks + 1) (depth_after b waiting) in
    after-closing τ (shape_refusal τ b waiting) at line b (failing (many_refusal blocks) line next) h
    (after-many τ (most_blocks ≤? blocks) line next (ih g c (blocks + 1) (depth_after b waiting) line (omega arith)))
line_after τ f b e blocks waiting at line asks ends h ih =
    after-closing τ (shape_refusal τ b waiting) at line b (failing (end_refusal (depth_after b waiting)) line (Ends τ)) h (after-end (not (depth_after b waiting =? 1)) line τ)

in_block : (τ : Time) (ls : List (List ℕ)) (f : Form) (b : Block) (blocks waiting at line : ℕ) → at < line → After τ at (script_from ls (InBlock τ f b) blocks waiting line)
in_block τ [] f b blocks waiting at line h = inl refl
in_block τ (l ∷ ls) f b blocks waiting at line h =
    line_after τ f b (read_line (InBlock τ f b) l) blocks waiting at line
    (λ (r' : Reading) (blocks' waiting' : ℕ). script_from ls r' blocks' waiting' (line + 1))
    (does (InBlock τ f b) l) h
    (λ (g : Form) (c : Block) (blocks' waiting' at' : ℕ) (k : at' < line + 1). in_block τ ls g c blocks' waiting' at' (line + 1) k)

line_before_blocks : (τ : Time) (f : Form) (e : Event) (line : ℕ) (asks : Asking) (counts : Reading → ℕ) → Does (BeforeBlocks τ f) e
    → ((σ : Time) (g : Form) → Begun (asks (BeforeBlocks σ g) 0 0) (counts (BeforeBlocks σ g)))
    → ((g : Form) (c : Block) (blocks waiting : ℕ) → After τ 0 (asks (InBlock τ g c) blocks waiting))
    → Begun (scripted e (BeforeBlocks τ f) 0 0 line asks) (count_by e (BeforeBlocks τ f) counts)
line_before_blocks τ f e line asks counts refuses ih jh = refl
line_before_blocks τ f e line asks counts (passes {σ} {g}) ih jh = ih σ g
line_before_blocks τ f e line asks counts (begins {g} {c}) ih jh = (refl, jh g c 1 0)
line_before_blocks τ f e line asks counts ends_empty ih jh = refl

pub before-blocks : (ls : List (List ℕ)) (τ : Time) (f : Form) (line : ℕ) → Begun (script_from ls (BeforeBlocks τ f) 0 0 line) (count_from ls (BeforeBlocks τ f))
before-blocks [] τ f line = refl
before-blocks (l ∷ ls) τ f line =
    line_before_blocks τ f (read_line (BeforeBlocks τ f) l) line
    (λ (r' : Reading) (blocks' waiting' : ℕ). script_from ls r' blocks' waiting' (line + 1))
    (λ (r' : Reading). count_from ls r')
    (does (BeforeBlocks τ f) l)
    (λ (σ : Time) (g : Form). before-blocks ls σ g (line + 1))
    (λ (g : Form) (c : Block) (blocks waiting : ℕ). in_block τ ls g c blocks waiting 0 (line + 1) (omega arith))

line_before_time : (f : Form) (e : Event) (line : ℕ) (asks : Asking) (counts : Reading → ℕ) → Does (BeforeTime f) e
    → ((g : Form) → Begun (asks (BeforeTime g) 0 0) (counts (BeforeTime g)))
    → ((τ : Time) (g : Form) → Begun (asks (BeforeBlocks τ g) 0 0) (counts (BeforeBlocks τ g)))
    → Begun (scripted e (BeforeTime f) 0 0 line asks) (count_by e (BeforeTime f) counts)
line_before_time f e line asks counts refuses ih jh = refl
line_before_time f e line asks counts (waits {g}) ih jh = ih g
line_before_time f e line asks counts (times {g} {τ}) ih jh = jh τ g

pub before-time : (ls : List (List ℕ)) (f : Form) (line : ℕ) → Begun (script_from ls (BeforeTime f) 0 0 line) (count_from ls (BeforeTime f))
before-time [] f line = refl
before-time (l ∷ ls) f line =
    line_before_time f (read_line (BeforeTime f) l) line
    (λ (r' : Reading) (blocks' waiting' : ℕ). script_from ls r' blocks' waiting' (line + 1))
    (λ (r' : Reading). count_from ls r')
    (does (BeforeTime f) l)
    (λ (g : Form). before-time ls g (line + 1))
    (λ (τ : Time) (g : Form). before-blocks ls τ g (line + 1))

pub deck-begun : (deck : List ℕ) → Begun (script_of deck) (ratio_count deck)
unfolding script_of ratio_count
deck-begun deck = before-time (lines_of deck) Fixed 1
