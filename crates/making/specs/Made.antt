-- A block's hydrograph made and held, before its flows are looked at.
--     HeldWithin           what is asked of what is held before
--     stack_by, words_by     what the stack and the work words are then, for each kind
--     Makes                the outcome, with makes_by: how it comes about
--     MakesAll             the same with what is answered: 20 where a pool rose above its last row. How it comes about: all_by, and all_dry of a block that is no pond;
--                          and what it tells: made_held, made_risen
use Rattle.std.specs.Prelude.{ℕ, ◌-◌, ◌*◌, ◌≤◌, ◌≡◌, refl, Bool, true, false, List, length, Result, Ok, Err}
use Rattle.std.proofs.Common.{sym, ap, ◌∙◌, arith}
use Rattle.sequences.specs.Parts.{part, put}
use Rattle.meaning.specs.Water.{inflow_of, routed_of}
use Rattle.meaning.specs.Pool.{ponded_of}
use Rattle.meaning.specs.Blocks.{Time, Block, Kind, NoKind, Basin, Inflow, Confluence, Reach, Pond, kind_of, Held, total, basin_area, combined, inflow_values, reach_steps, reach_k, reach_x, pond_rows, overtops_by, overtops}
use Rattle.meaning.specs.Run.{taken_by, held_after}
use Rattle.meaning.specs.Records.{most_ordinates}
use Rattle.refusals.specs.declared.Refusal.{Refusal}
use Rattle.refusals.specs.declared.Refusal.TheVariants as refusal
use Rattle.refusals.specs.Numbers.{refusal_in, some_number}
use Rattle.stack.specs.declared.Stack.{Stack}
use Rattle.stack.specs.View.{Fits, view, pushed}
use Rattle.stack.specs.Joining.{joined_stack, joined_all_words}
use Rattle.stack.specs.Limits.{Within}
use Rattle.stack.specs.Kinds.{block_runoff}

-- all that is held is within its limits; 199 blocks of the largest area may have been closed
pub record HeldWithin (s : Stack) (nq : ℕ) (w : List ℕ) : Type 0 where
  pub fits : Fits s.depth nq (length w)
  pub flows : Within (view s nq w)
  pub areas : (total (view s nq w)).area ≤ 198_999_801

abbrev pub stack_by : Kind → Block → Stack → Stack
stack_by NoKind b s = s
stack_by Basin b s = pushed (basin_area b) s
stack_by Inflow b s = pushed (basin_area b) s
stack_by Confluence b s = joined_stack (combined b - 1) s
stack_by Reach b s = s
stack_by Pond b s = s

abbrev pub words_by : Kind → Time → Block → Stack → List ℕ → List ℕ
words_by NoKind τ b s w = w
words_by Basin τ b s w = put (most_ordinates * s.depth) τ.ordinates w (block_runoff τ b)
words_by Inflow τ b s w = put (most_ordinates * s.depth) τ.ordinates w (inflow_of (inflow_values b) τ.ordinates)
words_by Confluence τ b s w = joined_all_words (combined b - 1) s.depth τ.ordinates w
words_by Reach τ b s w =
    put (most_ordinates * (s.depth - 1)) τ.ordinates w (routed_of (reach_steps b) τ.minutes (reach_k b) (reach_x b) (part (most_ordinates * (s.depth - 1)) τ.ordinates w))
words_by Pond τ b s w =
    put (most_ordinates * (s.depth - 1)) τ.ordinates w (ponded_of τ.minutes (pond_rows b) (part (most_ordinates * (s.depth - 1)) τ.ordinates w))

pub record Makes (τ : Time) (b : Block) (s : Stack) (w : List ℕ) (next : Stack) (w' : List ℕ) : Type 0 where
  pub stack : next ≡ stack_by (kind_of b) b s
  pub words : w' ≡ words_by (kind_of b) τ b s w
  pub held : view next τ.ordinates w' ≡ held_after τ b (view s τ.ordinates w)

pub makes_by : (τ : Time) (b : Block) (s : Stack) (w : List ℕ) {k : Kind} {next : Stack} {w' : List ℕ} → kind_of b ≡ k → next ≡ stack_by k b s → w' ≡ words_by k τ b s w
    → view next τ.ordinates w' ≡ held_after τ b (view s τ.ordinates w) → Makes τ b s w next w'
makes_by τ b s w e p q v = record { stack = rw e p; words = rw e q; held = v }

-- 20 by the kind alone
pub over_by_lem : (τ : Time) (b : Block) (h : Held) {k : Kind} → kind_of b ≡ k → overtops τ b h ≡ overtops_by k τ b h
unfolding overtops
over_by_lem τ b h e = rw e

-- what is answered of a hydrograph that is made: what is held then, or 20 where a pool rose above its last row
abbrev pub made_by : (risen : Bool) → Stack → Result Stack Refusal
made_by true s = Err refusal.Overtopped
made_by false s = Ok s

abbrev pub made_dry : Stack → Result Stack Refusal
made_dry s = made_by false s

pub record MakesAll (τ : Time) (b : Block) (s : Stack) (w : List ℕ) (r : Result Stack Refusal) (w' : List ℕ) : Type 0 where
  pub next : Stack
  pub makes : Makes τ b s w next w'
  pub answer : r ≡ made_by (overtops τ b (taken_by b (view s τ.ordinates w))) next

module _ (τ : Time) (b : Block) (s : Stack) (w : List ℕ) {k : Kind} {next : Stack} {w' : List ℕ} (e : kind_of b ≡ k) where
  -- by whether a pool rose above its last row,
  pub all_by : (risen : Bool) → risen ≡ overtops_by k τ b (taken_by b (view s τ.ordinates w)) → Makes τ b s w next w' → MakesAll τ b s w (made_by risen next) w'
  all_by risen is m =
      record { next = next; makes = m; answer = ap (λ (t : Bool). made_by t next) (is ∙ sym (over_by_lem τ b (taken_by b (view s τ.ordinates w)) e)) }

  -- and of a block that is no pond none can
  pub all_dry : overtops_by k τ b (taken_by b (view s τ.ordinates w)) ≡ false → Makes τ b s w next w' → MakesAll τ b s w (made_dry next) w'
  all_dry none m = all_by false (sym none) m

-- What is told of it: it is held, or 20 is met.
held_by : (risen : Bool) (h next : Stack) → Ok h ≡ made_by risen next → (h ≡ next) × (risen ≡ false)
held_by true h next e = absurd (omega (arith, ap refusal_in e))
held_by false h next e = (cc, refl)

risen_by : (risen : Bool) (x : Refusal) (next : Stack) → Err x ≡ made_by risen next → (x ≡ refusal.Overtopped) × (risen ≡ true)
risen_by true x next e = (cc, refl)
risen_by false x next e = absurd (some_number x (ap refusal_in e))

module _ {τ : Time} {b : Block} {s : Stack} {w w' : List ℕ} where
  pub made_held : {h : Stack} → MakesAll τ b s w (Ok h) w' → Makes τ b s w h w' × (overtops τ b (taken_by b (view s τ.ordinates w)) ≡ false)
  made_held m = let told = held_by _ _ m.next m.answer in (rw told.0 m.makes, told.1)

  pub made_risen : {x : Refusal} → MakesAll τ b s w (Err x) w' → (x ≡ refusal.Overtopped) × (overtops τ b (taken_by b (view s τ.ordinates w)) ≡ true)
  made_risen m = risen_by _ _ m.next m.answer
