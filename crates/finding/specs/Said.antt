-- The blocks that a deck's lines say are found by their numbers, and so are those of the results of a deck that is worked to its end. Line by line, with the time control
-- as it stands in a block.
--     block-said    of lines that read soundly
--     block_done    of a deck that is worked to its end, whichever of its ratios is looked at
use Rattle.std.specs.Prelude.{ℕ, zero, suc, ◌-◌, ◌≤◌, ◌<◌, ◌≡◌, refl, length, get_or}
use Rattle.std.proofs.Common.{sym, ap, ◌∙◌, arith}
use mathlib.Core.List.{List, [], ◌∷◌}
use Rattle.meaning.specs.Lines.{lines_of}
use Rattle.meaning.specs.Fields.{Form, Fixed}
use Rattle.meaning.specs.Blocks.{Time, Block, opened}
use Rattle.meaning.specs.Results.{Result, blocks_of}
use Rattle.meaning.specs.Run.{Reading, BeforeTime, BeforeBlocks, InBlock, Event, read_line, Done, worked, block_count}
use Rattle.passes.specs.Does.{Does, refuses, waits, times, passes, begins, ends_empty, fills, turns, ends, does}
use Rattle.network.specs.Order.{Said, Unsound, Sound, said_after, said_by, said_from, said}
use Rattle.network.specs.WorkedBlocks.{blocks_under, count_blocks}
use Rattle.network.proofs.WorkedBlocks.{done_as_said}
use Rattle.finding.specs.Place.{Place, At, place_by, block_at}

-- so many blocks stand before it in those that are said
abbrev Finds : Said → (left : ℕ) → Place → Type 0
Finds Unsound left p = Unit
Finds (Sound σ bs) left p = left < length bs → p ≡ At σ (get_or bs left (opened []))

-- IN A BLOCK, under the time control there
module _ (τ : Time) where
  abbrev FindsIn : Said → (left : ℕ) → Place → Type 0
  FindsIn Unsound left p = Unit
  FindsIn (Sound σ bs) left p = (σ ≡ τ) × (left < length bs → p ≡ At σ (get_or bs left (opened [])))

  -- a KK: the block that it closes, and those behind it
  closes : (s : Said) (b : Block) (left : ℕ) (p : Place) → FindsIn s left p → FindsIn (said_after (b ∷ []) s) 0 (At τ b)
  closes Unsound b left p h = tt
  closes (Sound σ bs) b left p h = (h.0, λ few. ap (λ (σ : Time). At σ b) (sym h.0))

  passes_by : (s : Said) (b : Block) (left : ℕ) (p : Place) → FindsIn s left p → FindsIn (said_after (b ∷ []) s) (suc left) p
  passes_by Unsound b left p h = tt
  passes_by (Sound σ bs) b left p h = (h.0, λ few. h.1 (omega arith))

  line_in_block : (f : Form) (b : Block) (left : ℕ) (e : Event) (rest : Reading → Said) (go : Reading → ℕ → Place) → Does (InBlock τ f b) e
      → ((g : Form) (c : Block) (n : ℕ) → FindsIn (rest (InBlock τ g c)) n (go (InBlock τ g c) n))
      → FindsIn (said_by e (InBlock τ f b) rest) left (place_by e (InBlock τ f b) left go)
  line_in_block f b left e rest go refuses ih = tt
  line_in_block f b left e rest go (fills {g} {c}) ih = ih g c left
  line_in_block f b zero e rest go (turns {g} {c}) ih = closes (rest (InBlock τ g c)) b 0 (go (InBlock τ g c) 0) (ih g c 0)
  line_in_block f b (suc left) e rest go (turns {g} {c}) ih = passes_by (rest (InBlock τ g c)) b left (go (InBlock τ g c) left) (ih g c left)
  line_in_block f b zero e rest go ends ih = (refl, λ few. refl)
  line_in_block f b (suc left) e rest go ends ih = (refl, λ few. absurd (omega arith))

  in_block : (ls : List (List ℕ)) (f : Form) (b : Block) (left : ℕ) → FindsIn (said_from ls (InBlock τ f b)) left (block_at ls (InBlock τ f b) left)
  unfolding block_at
  in_block [] f b left = tt
  in_block (l ∷ ls) f b left =
      line_in_block f b left (read_line (InBlock τ f b) l) (λ (r : Reading). said_from ls r) (λ (r : Reading) (n : ℕ). block_at ls r n) (does (InBlock τ f b) l) (in_block ls)

  -- BEFORE THE FIRST BLOCK one KK more is left
  begun : (s : Said) (left : ℕ) (p : Place) → FindsIn s left p → Finds (said_after [] s) left p
  begun Unsound left p h = tt
  begun (Sound σ bs) left p h = h.1

  line_before_blocks : (f : Form) (left : ℕ) (e : Event) (rest : Reading → Said) (go : Reading → ℕ → Place) → Does (BeforeBlocks τ f) e
      → ((σ : Time) (g : Form) → Finds (rest (BeforeBlocks σ g)) left (go (BeforeBlocks σ g) (suc left)))
      → ((g : Form) (c : Block) → FindsIn (rest (InBlock τ g c)) left (go (InBlock τ g c) left))
      → Finds (said_by e (BeforeBlocks τ f) rest) left (place_by e (BeforeBlocks τ f) (suc left) go)
  line_before_blocks f left e rest go refuses ih jh = tt
  line_before_blocks f left e rest go (passes {σ} {g = g}) ih jh = ih σ g
  line_before_blocks f left e rest go (begins {g} {c}) ih jh = begun (rest (InBlock τ g c)) left (go (InBlock τ g c) left) (jh g c)
  line_before_blocks f left e rest go ends_empty ih jh = λ few. absurd (omega arith)

before-blocks : (ls : List (List ℕ)) (τ : Time) (f : Form) (left : ℕ) → Finds (said_from ls (BeforeBlocks τ f)) left (block_at ls (BeforeBlocks τ f) (suc left))
unfolding block_at
before-blocks [] τ f left = tt
before-blocks (l ∷ ls) τ f left =
    line_before_blocks τ f left (read_line (BeforeBlocks τ f) l) (λ (r : Reading). said_from ls r) (λ (r : Reading) (n : ℕ). block_at ls r n) (does (BeforeBlocks τ f) l)
    (λ (σ : Time) (g : Form). before-blocks ls σ g left) (λ (g : Form) (c : Block). in_block τ ls g c left)

line_before_time : (f : Form) (left : ℕ) (e : Event) (rest : Reading → Said) (go : Reading → ℕ → Place) → Does (BeforeTime f) e
    → ((g : Form) → Finds (rest (BeforeTime g)) left (go (BeforeTime g) (suc left)))
    → ((σ : Time) (g : Form) → Finds (rest (BeforeBlocks σ g)) left (go (BeforeBlocks σ g) (suc left)))
    → Finds (said_by e (BeforeTime f) rest) left (place_by e (BeforeTime f) (suc left) go)
line_before_time f left e rest go refuses ih jh = tt
line_before_time f left e rest go (waits {g}) ih jh = ih g
line_before_time f left e rest go (times {g} {τ}) ih jh = jh τ g

before-time : (ls : List (List ℕ)) (f : Form) (left : ℕ) → Finds (said_from ls (BeforeTime f)) left (block_at ls (BeforeTime f) (suc left))
unfolding block_at
before-time [] f left = tt
before-time (l ∷ ls) f left =
    line_before_time f left (read_line (BeforeTime f) l) (λ (r : Reading). said_from ls r) (λ (r : Reading) (n : ℕ). block_at ls r n) (does (BeforeTime f) l)
    (λ (g : Form). before-time ls g left) (λ (σ : Time) (g : Form). before-blocks ls σ g left)

-- THE DECK
finds_said : (deck : List ℕ) (left : ℕ) → Finds (said deck) left (block_at (lines_of deck) (BeforeTime Fixed) (suc left))
unfolding said
finds_said deck left = before-time (lines_of deck) Fixed left

pub block-said : (deck : List ℕ) (σ : Time) (bs : List Block) (number : ℕ) → said deck ≡ Sound σ bs → 0 < number → number ≤ length bs
    → block_at (lines_of deck) (BeforeTime Fixed) number ≡ At σ (get_or bs (number - 1) (opened []))
block-said deck σ bs zero sound some few = absurd (omega arith)
block-said deck σ bs (suc left) sound some few =
    let e : suc left - 1 ≡ left = omega arith in
    let found : Finds (Sound σ bs) left (block_at (lines_of deck) (BeforeTime Fixed) (suc left)) = rw sound at (finds_said deck left) in
    rw e (found (omega arith))

pub block_done : (deck : List ℕ) (τ : Time) (rss : List (List Result)) (place number : ℕ) → worked deck ≡ Done τ rss → place < length rss
    → 0 < number → number ≤ block_count rss
    → block_at (lines_of deck) (BeforeTime Fixed) number ≡ At τ (get_or (blocks_of (get_or rss place [])) (number - 1) (opened []))
block_done deck τ rss place number done h some few =
    let d = done_as_said deck τ rss done in
    block-said deck τ d.blocks number d.sound some (omega (arith, count_blocks d))
    ∙ ap (λ (bs : List Block). At τ (get_or bs (number - 1) (opened []))) (sym (blocks_under d place h))
