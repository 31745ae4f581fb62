-- A deck walked line by line under one ratio is its blocks worked one after another. Lines are read without a look at what is held, so where they read soundly only the
-- blocks count.
--     worked_as_said    where the lines read soundly, the work on them under a ratio ends as that on the blocks does, and the deck has as many ratios as its time control;
--                       where not, it stops
use Rattle.std.specs.Prelude.{◌≡◌, ℕ, zero, suc, ◌+◌, length}
use Rattle.std.proofs.Math.Path.{refl, subst}
use Rattle.std.proofs.Common.{sym}
use mathlib.Core.List.{List, [], ◌∷◌, ◌++◌, append_assoc}
use Rattle.meaning.specs.Words.{first}
use Rattle.meaning.specs.Lines.{lines_of}
use Rattle.meaning.specs.Fields.{Form, Fixed}
use Rattle.meaning.specs.Blocks.{Time, ratios_of, ratio_at, Block, Held}
use Rattle.meaning.specs.Results.{Result}
use Rattle.meaning.specs.Run.{Reading, BeforeTime, BeforeBlocks, InBlock, Event, Refuse, End, read_line, held_for, held_after, Only, Standing, nothing_yet, many_refusal, end_refusal, Worked, Stopped, Done, Step, Stop, Next, step_unless, act, and_then, walk, worked_under}
use Rattle.passes.specs.Apart.{count_by, count_from, ratio_count}
use Rattle.passes.specs.Does.{Does, refuses, waits, times, passes, begins, ends_empty, fills, turns, ends, does}
use Rattle.passes.specs.One.{time_at, standing, closing_under, one_opens, one_ends}
use Rattle.network.specs.Order.{Said, Unsound, Sound, said_after, said_by, said_from, said}
use Rattle.network.specs.Steps.{first_refusal, closed_from, Ends, Stops, WorkedAs}

-- A line refused for what it holds: the lines say nothing, and the work stops there.
stops : (k : ℕ) (said' : Said) (ratios number line : ℕ) → said' ≡ Unsound → WorkedAs k said' ratios (Stopped number line)
stops k said' ratios number line e = rw e (number, line, refl)

module _ (k : ℕ) (σ : Time) where
  abbrev τ : Time
  τ = time_at k σ

  -- The same with a block open, which the lines left will finish and close.
  abbrev Continues : Said → (blocks : ℕ) → List Held → List Result → Worked → Type 0
  Continues Unsound blocks held rs w = Stops w
  Continues (Sound ρ []) blocks held rs w = ⊥
  Continues (Sound ρ (b ∷ bs)) blocks held rs w = (ρ ≡ σ) × Ends (first_refusal τ blocks held b bs) σ (rs ++ closed_from τ held (b ∷ bs)) w

  stops_open : (said' : Said) (blocks : ℕ) (held : List Held) (rs : List Result) (number line : ℕ) → said' ≡ Unsound → Continues said' blocks held rs (Stopped number line)
  stops_open said' blocks held rs number line e = rw e (number, line, refl)

  -- A ZZ: the lines say the block that it closes.
  closes : (said' : Said) (b : Block) (blocks : ℕ) (held : List Held) (rs : List Result) (w : Worked) → said' ≡ Sound σ (b ∷ [])
      → Ends (first_refusal τ blocks held b []) σ (rs ++ closed_from τ held (b ∷ [])) w → Continues said' blocks held rs w
  closes said' b blocks held rs w e h = rw e (refl, h)

  abbrev Going : Type 0
  Going = Reading → Standing → Worked

  -- a ZZ
  ending : (number line : ℕ) (rs : List Result) (go : Going) → Ends number σ rs (and_then (step_unless number line (Stop (Done σ (rs ∷ [])))) go)
  ending zero line rs go = refl
  ending (suc number) line rs go = (line, refl)

  -- a KK, where the work on what follows it is known
  turning_on : (number line next : ℕ) (rs : List Result) (r : Reading) (s : Standing) (go : Going) → Ends next σ rs (go r s)
      → Ends (first number next) σ rs (and_then (step_unless number line (Next r s)) go)
  turning_on zero line next rs r s go h = h
  turning_on (suc number) line next rs r s go h = (line, refl)

  turning_off : (number line : ℕ) (r : Reading) (s : Standing) (go : Going) → Stops (go r s) → Stops (and_then (step_unless number line (Next r s)) go)
  turning_off zero line r s go h = h
  turning_off (suc number) line r s go h = (suc number, line, refl)

  -- Where the block b closes, with what is held and the results so far: what it leaves, and where the walk then stands.
  module _ (b : Block) (blocks : ℕ) (held : List Held) (rs : List Result) where
    abbrev more : List Result
    more = rs ++ (record { block = b; held = held_for τ b held } ∷ [])

    abbrev after : Standing
    after = standing τ (blocks + 1) (held_after τ b held) more

    turning : (said' : Said) (line : ℕ) (r : Reading) (go : Going) → Continues said' (blocks + 1) (held_after τ b held) more (go r after)
        → Continues (said_after (b ∷ []) said') blocks held rs (and_then (step_unless (first (closing_under τ b held) (many_refusal blocks)) line (Next r after)) go)
    unfolding first_refusal
    turning Unsound line r go h = turning_off (first (closing_under τ b held) (many_refusal blocks)) line r after go h
    turning (Sound ρ []) line r go h = absurd h
    turning (Sound ρ (c ∷ cs)) line r go h = (
      h.0,
      turning_on (first (closing_under τ b held) (many_refusal blocks)) line
          (first_refusal τ (blocks + 1) (held_after τ b held) c cs)
          (rs ++ closed_from τ held (b ∷ c ∷ cs)) r after go (rw append_assoc at h.1),
    )

    line_in_block : (f : Form) (line : ℕ) (e : Event) (rest : Reading → Said) (go : Going) → Does (InBlock σ f b) e
        → ((g : Form) (c : Block) (blocks' : ℕ) (held' : List Held) (rs' : List Result)
        → Continues (rest (InBlock σ g c)) blocks' held' rs' (go (InBlock σ g c) (standing τ blocks' held' rs')))
        → Continues (said_by e (InBlock σ f b) rest) blocks held rs (and_then (act (Only k) e (InBlock σ f b) (standing τ blocks held rs) line) go)
    unfolding first_refusal
    line_in_block f line e rest go (refuses {number}) ih = stops_open (said_by (Refuse number) (InBlock σ f b) rest) blocks held rs number line refl
    line_in_block f line e rest go (fills {g} {c}) ih = ih g c blocks held rs
    line_in_block f line e rest go (turns {g} {c}) ih =
        subst (λ (step : Step). Continues (said_after (b ∷ []) (rest (InBlock σ g c))) blocks held rs (and_then step go))
        (sym (one_opens (ratio_at k σ) σ f b blocks held rs (Only k) line (InBlock σ g c)))
        (turning (rest (InBlock σ g c)) line (InBlock σ g c) go (ih g c (blocks + 1) (held_after τ b held) more))
    line_in_block f line e rest go ends ih =
        let number = first (closing_under τ b held) (end_refusal (length (held_after τ b held))) in
        let said' = said_by (End σ) (InBlock σ f b) rest in
        subst (λ (step : Step). Continues said' blocks held rs (and_then step go))
        (sym (one_ends (ratio_at k σ) σ f b blocks held rs (Only k) line σ))
        (closes said' b blocks held rs (and_then (step_unless number line (Stop (Done σ (more ∷ [])))) go) refl (ending number line more go))

  in_block : (ls : List (List ℕ)) (f : Form) (b : Block) (blocks : ℕ) (held : List Held) (rs : List Result) (line : ℕ)
      → Continues (said_from ls (InBlock σ f b)) blocks held rs (walk (Only k) ls (InBlock σ f b) (standing τ blocks held rs) line)
  unfolding walk
  in_block [] f b blocks held rs line = (16, 0, refl)
  in_block (l ∷ ls) f b blocks held rs line =
      line_in_block b blocks held rs f line (read_line (InBlock σ f b) l) (λ (r : Reading). said_from ls r) (λ (r : Reading) (s' : Standing). walk (Only k) ls r s' (line + 1))
      (does (InBlock σ f b) l)
      (λ (g : Form) (c : Block) (blocks' : ℕ) (held' : List Held) (rs' : List Result). in_block ls g c blocks' held' rs' (line + 1))

  -- The first KK.
  beginning : (said' : Said) (w : Worked) → Continues said' 1 [] [] w → WorkedAs k (said_after [] said') (length (ratios_of σ)) w
  beginning Unsound w h = h
  beginning (Sound ρ []) w h = absurd h
  beginning (Sound ρ (b ∷ bs)) w h =
      subst (λ (υ : Time). (length (ratios_of σ) ≡ length (ratios_of υ)) × Ends (first_refusal (time_at k υ) 1 [] b bs) υ (closed_from (time_at k υ) [] (b ∷ bs)) w) (sym h.0) (refl, h.1)

  line_before_blocks : (f : Form) (line : ℕ) (e : Event) (rest : Reading → Said) (counts : Reading → ℕ) (go : Going) → Does (BeforeBlocks σ f) e
      → ((ρ : Time) (g : Form) → WorkedAs k (rest (BeforeBlocks ρ g)) (counts (BeforeBlocks ρ g)) (go (BeforeBlocks ρ g) nothing_yet))
      → ((g : Form) (c : Block) → Continues (rest (InBlock σ g c)) 1 [] [] (go (InBlock σ g c) (standing τ 1 [] [])))
      → WorkedAs k (said_by e (BeforeBlocks σ f) rest) (count_by e (BeforeBlocks σ f) counts) (and_then (act (Only k) e (BeforeBlocks σ f) nothing_yet line) go)
  line_before_blocks f line e rest counts go (refuses {number}) ih jh = stops k (said_by (Refuse number) (BeforeBlocks σ f) rest) 1 number line refl
  line_before_blocks f line e rest counts go (passes {σ = ρ} {g}) ih jh = ih ρ g
  line_before_blocks f line e rest counts go (begins {g} {c}) ih jh = beginning (rest (InBlock σ g c)) (go (InBlock σ g c) (standing τ 1 [] [])) (jh g c)
  line_before_blocks f line e rest counts go ends_empty ih jh = (15, line, refl)

module _ (k : ℕ) where
  before-blocks : (ls : List (List ℕ)) (σ : Time) (f : Form) (line : ℕ)
      → WorkedAs k (said_from ls (BeforeBlocks σ f)) (count_from ls (BeforeBlocks σ f)) (walk (Only k) ls (BeforeBlocks σ f) nothing_yet line)
  unfolding walk
  before-blocks [] σ f line = (16, 0, refl)
  before-blocks (l ∷ ls) σ f line =
      line_before_blocks k σ f line (read_line (BeforeBlocks σ f) l) (λ (r : Reading). said_from ls r) (λ (r : Reading). count_from ls r)
      (λ (r : Reading) (s : Standing). walk (Only k) ls r s (line + 1))
      (does (BeforeBlocks σ f) l)
      (λ (ρ : Time) (g : Form). before-blocks ls ρ g (line + 1))
      (λ (g : Form) (c : Block). in_block k σ ls g c 1 [] [] (line + 1))

  line_before_time : (f : Form) (line : ℕ) (e : Event) (rest : Reading → Said) (counts : Reading → ℕ) (go : Reading → Standing → Worked) → Does (BeforeTime f) e
      → ((g : Form) → WorkedAs k (rest (BeforeTime g)) (counts (BeforeTime g)) (go (BeforeTime g) nothing_yet))
      → ((σ : Time) (g : Form) → WorkedAs k (rest (BeforeBlocks σ g)) (counts (BeforeBlocks σ g)) (go (BeforeBlocks σ g) nothing_yet))
      → WorkedAs k (said_by e (BeforeTime f) rest) (count_by e (BeforeTime f) counts) (and_then (act (Only k) e (BeforeTime f) nothing_yet line) go)
  line_before_time f line e rest counts go (refuses {number}) ih jh = stops k (said_by (Refuse number) (BeforeTime f) rest) 1 number line refl
  line_before_time f line e rest counts go (waits {g}) ih jh = ih g
  line_before_time f line e rest counts go (times {g} {τ = σ}) ih jh = jh σ g

  before-time : (ls : List (List ℕ)) (f : Form) (line : ℕ)
      → WorkedAs k (said_from ls (BeforeTime f)) (count_from ls (BeforeTime f)) (walk (Only k) ls (BeforeTime f) nothing_yet line)
  unfolding walk
  before-time [] f line = (16, 0, refl)
  before-time (l ∷ ls) f line =
      line_before_time f line (read_line (BeforeTime f) l) (λ (r : Reading). said_from ls r) (λ (r : Reading). count_from ls r)
      (λ (r : Reading) (s : Standing). walk (Only k) ls r s (line + 1))
      (does (BeforeTime f) l)
      (λ (g : Form). before-time ls g (line + 1))
      (λ (σ : Time) (g : Form). before-blocks ls σ g (line + 1))

  pub worked_as_said : (deck : List ℕ) → WorkedAs k (said deck) (ratio_count deck) (worked_under (Only k) deck)
  unfolding said worked_under ratio_count
  worked_as_said deck = before-time (lines_of deck) Fixed 1

-- Lines that read soundly and say a block: as many ratios as their time control has.
pub count-said : (deck : List ℕ) (σ : Time) (b : Block) (bs : List Block) → said deck ≡ Sound σ (b ∷ bs) → ratio_count deck ≡ length (ratios_of σ)
count-said deck σ b bs e =
    let w : WorkedAs 0 (Sound σ (b ∷ bs)) (ratio_count deck) (worked_under (Only 0) deck) = rw e at (worked_as_said 0 deck) in
    w.0
