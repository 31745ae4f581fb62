-- What the lines of a deck ask for, with no flow looked at: where the runs start, which blocks close at which lines, and how it ends. Every walk plays the same script.
--     Script, script_of    the script of a deck
--     play                what becomes of runs that are worked together along a script
--     worked_plays        a walk over the deck is its script, played
use Rattle.std.specs.Prelude.{ℕ, zero, suc, ◌+◌, ◌≡◌}
use Rattle.std.proofs.Math.Path.{refl}
use mathlib.Core.List.{List, [], ◌∷◌, map}
use Rattle.meaning.specs.Words.{first}
use Rattle.meaning.specs.Lines.{lines_of}
use Rattle.meaning.specs.Fields.{Fixed}
use Rattle.meaning.specs.Blocks.{Time, Block}
use Rattle.meaning.specs.Run.{Reading, BeforeTime, BeforeBlocks, InBlock, Event, Refuse, Go, Open, End, read_line, shape_refusal, depth_after, Run, begun, with_result, flow_refusals, Which, chosen, Standing, nothing_yet, closing_refusal, closed, one_more, results_of, Worked, Stopped, Done, Stop, Next, step_unless, many_refusal, end_refusal, act, and_then, walk, worked_under}

-- A refusal that no flow decides, so neither 13 nor 20; the ZZ; the first KK, where the runs start; a block that closes at a line.
pub data Script : Type 0 where
  Fails : (number line : ℕ) → Script
  Ends : Time → Script
  Starts : Time → Script → Script
  Closes : Block → (line : ℕ) → Script → Script

abbrev pub failing : ℕ → ℕ → Script → Script
failing zero line next = next
failing (suc number) line next = Fails (suc number) line

-- What a KK or ZZ closes, once 9 to 12, 18 and 19 are passed; what the KK starts, if it is the first.
abbrev pub closing : Reading → (waiting line : ℕ) → Script → Script
closing (BeforeTime form) waiting line next = next
closing (BeforeBlocks τ form) waiting line next = next
closing (InBlock τ form b) waiting line next = failing (shape_refusal τ b waiting) line (Closes b line next)

abbrev pub starting : Reading → Script → Script
starting (BeforeTime form) next = next
starting (BeforeBlocks τ form) next = Starts τ next
starting (InBlock τ form b) next = next

abbrev pub waiting_after : Reading → ℕ → ℕ
waiting_after (BeforeTime form) waiting = waiting
waiting_after (BeforeBlocks τ form) waiting = waiting
waiting_after (InBlock τ form b) waiting = depth_after b waiting

abbrev pub scripted : Event → Reading → (blocks waiting line : ℕ) → (Reading → ℕ → ℕ → Script) → Script
scripted (Refuse number) r blocks waiting line go = Fails number line
scripted (Go next) r blocks waiting line go = go next blocks waiting
scripted (Open next) r blocks waiting line go =
    closing r waiting line (failing (many_refusal blocks) line (starting r (go next (blocks + 1) (waiting_after r waiting))))
scripted (End τ) r blocks waiting line go = closing r waiting line (failing (end_refusal (waiting_after r waiting)) line (Ends τ))

abbrev pub script_from : List (List ℕ) → Reading → (blocks waiting line : ℕ) → Script
script_from [] r blocks waiting line = Fails 16 0
script_from (l ∷ ls) r blocks waiting line =
    scripted (read_line r l) r blocks waiting line (λ (r' : Reading) (blocks' waiting' : ℕ). script_from ls r' blocks' waiting' (line + 1))

unfoldable pub script_of : List ℕ → Script
script_of deck = script_from (lines_of deck) (BeforeTime Fixed) 0 0 1

abbrev pub stopped_unless : ℕ → ℕ → Worked → Worked
stopped_unless zero line next = next
stopped_unless (suc number) line next = Stopped (suc number) line

abbrev pub play : Which → List Run → Script → Worked
play which runs (Fails number line) = Stopped number line
play which runs (Ends τ) = Done τ (results_of runs)
play which runs (Starts τ s) = play which (map (begun τ) (chosen which τ)) s
play which runs (Closes b line s) = stopped_unless (flow_refusals b runs) line (play which (map (with_result b) runs) s)

module _ (which : Which) where
  abbrev Going : Type 0
  Going = Reading → Standing → Worked

  abbrev Asking : Type 0
  Asking = Reading → ℕ → ℕ → Script

  -- A KK that closes a block, by its refusals: those of its shape, 20 or 13 of its flows, 14. Where none was open, 14 only. A ZZ likewise, with 15.
  kk_plays : (shape flow many line : ℕ) (b : Block) (runs : List Run) (next : Script) (r : Reading) (s : Standing) (go : Going)
      → flow_refusals b runs ≡ flow → go r s ≡ play which (map (with_result b) runs) next
      → and_then (step_unless (first (first shape flow) many) line (Next r s)) go ≡ play which runs (failing shape line (Closes b line (failing many line next)))
  kk_plays zero zero zero line b runs next r s go f e = rw f e
  kk_plays zero zero (suc many) line b runs next r s go f e = rw f refl
  kk_plays zero (suc flow) many line b runs next r s go f e = rw f refl
  kk_plays (suc shape) flow many line b runs next r s go f e = refl

  kk_starts : (many line : ℕ) (runs : List Run) (next : Script) (r : Reading) (s : Standing) (go : Going) → go r s ≡ play which runs next
      → and_then (step_unless many line (Next r s)) go ≡ play which runs (failing many line next)
  kk_starts zero line runs next r s go e = e
  kk_starts (suc many) line runs next r s go e = refl

  zz_plays : (shape flow end line : ℕ) (b : Block) (runs : List Run) (τ : Time) (go : Going) → flow_refusals b runs ≡ flow
      → and_then (step_unless (first (first shape flow) end) line (Stop (Done τ (results_of (map (with_result b) runs))))) go
      ≡ play which runs (failing shape line (Closes b line (failing end line (Ends τ))))
  zz_plays zero zero zero line b runs τ go f = rw f refl
  zz_plays zero zero (suc end) line b runs τ go f = rw f refl
  zz_plays zero (suc flow) end line b runs τ go f = rw f refl
  zz_plays (suc shape) flow end line b runs τ go f = refl

  zz_starts : (end line : ℕ) (runs : List Run) (τ : Time) (go : Going)
      → and_then (step_unless end line (Stop (Done τ (results_of runs)))) go ≡ play which runs (failing end line (Ends τ))
  zz_starts zero line runs τ go = refl
  zz_starts (suc end) line runs τ go = refl

  line_plays : (e : Event) (r : Reading) (s : Standing) (line : ℕ) (go : Going) (asks : Asking)
      → ((r' : Reading) (s' : Standing) → go r' s' ≡ play which s'.runs (asks r' s'.blocks s'.waiting))
      → and_then (act which e r s line) go ≡ play which s.runs (scripted e r s.blocks s.waiting line asks)
  unfolding closing_refusal
  line_plays (Refuse number) r s line go asks ih = refl
  line_plays (Go next) r s line go asks ih = ih next s
  line_plays (Open next) (BeforeTime f) s line go asks ih =
      let s' = one_more which (BeforeTime f) s in
      kk_starts (many_refusal s.blocks) line s.runs (asks next (s.blocks + 1) s.waiting) next s' go (ih next s')
  line_plays (Open next) (BeforeBlocks τ f) s line go asks ih =
      let s' = one_more which (BeforeBlocks τ f) s in
      kk_starts (many_refusal s.blocks) line s.runs (Starts τ (asks next (s.blocks + 1) s.waiting)) next s' go (ih next s')
  line_plays (Open next) (InBlock τ f b) s line go asks ih =
      let s' = one_more which (InBlock τ f b) (closed (InBlock τ f b) s) in
      kk_plays (shape_refusal τ b s.waiting) (flow_refusals b s.runs) (many_refusal s.blocks) line b s.runs
      (asks next (s.blocks + 1) (depth_after b s.waiting)) next s' go refl (ih next s')
  line_plays (End σ) (BeforeTime f) s line go asks ih = zz_starts (end_refusal s.waiting) line s.runs σ go
  line_plays (End σ) (BeforeBlocks τ f) s line go asks ih = zz_starts (end_refusal s.waiting) line s.runs σ go
  line_plays (End σ) (InBlock τ f b) s line go asks ih =
      zz_plays (shape_refusal τ b s.waiting) (flow_refusals b s.runs) (end_refusal (depth_after b s.waiting)) line b s.runs σ go refl

  pub walk_plays : (ls : List (List ℕ)) (r : Reading) (s : Standing) (line : ℕ)
      → walk which ls r s line ≡ play which s.runs (script_from ls r s.blocks s.waiting line)
  unfolding walk
  walk_plays [] r s line = refl
  walk_plays (l ∷ ls) r s line =
      line_plays (read_line r l) r s line (λ (r' : Reading) (s' : Standing). walk which ls r' s' (line + 1))
      (λ (r' : Reading) (blocks' waiting' : ℕ). script_from ls r' blocks' waiting' (line + 1))
      (λ (r' : Reading) (s' : Standing). walk_plays ls r' s' (line + 1))

  pub worked_plays : (deck : List ℕ) → worked_under which deck ≡ play which [] (script_of deck)
  unfolding worked_under script_of
  worked_plays deck = walk_plays (lines_of deck) (BeforeTime Fixed) nothing_yet 1
