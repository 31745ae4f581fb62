-- A block closed: the answer, and what is held then.
--     answer_by            the answer, told by the refusal: a refused block leaves what was held before
--     closing_told         what is told of a block by what its refusals come to
--     Closes              the outcome: the refusal, the answer and the words; and of what is held then, Keeps
--     closes_by_shape     how it comes about: refused by its shape,
--     closes_by_rise, closes_by_flow, closes_held     or made and held, and then refused by 20, by 13 or not
use Rattle.std.specs.Prelude.{ℕ, zero, suc, ◌+◌, ◌≤◌, ◌<◌, ◌≡◌, refl, true, false, length, Result, Ok, Err, IfOk}
use Rattle.std.proofs.Common.{sym, ◌∙◌, arith, length-drop}
use Rattle.std.proofs.Math.Path.{ap, subst}
use mathlib.Core.List.{List}
use borrow.Author.Tests.{lt-ltb, le-ltb}
use Rattle.meaning.specs.Water.{flow_limit}
use Rattle.meaning.specs.Blocks.{Time, Block, Kind, kind_number, kind_of, takes, Held, total, overtops}
use Rattle.meaning.specs.Results.{peak_of}
use Rattle.meaning.specs.Run.{taken_by, held_for, held_after, shape_refusal, flow_refusal}
use Rattle.refusals.specs.declared.Refusal.{Refusal}
use Rattle.refusals.specs.declared.Refusal.TheVariants as refusal
use Rattle.refusals.specs.Numbers.{refusal_number, named_by, named_back, some_number}
use Rattle.passes.specs.One.{closing_under}
use Rattle.stack.specs.declared.Stack.{Stack}
use Rattle.stack.specs.View.{view, length_held}
use Rattle.stack.specs.Limits.{Within}
use Rattle.summary.specs.declared.Summary.{Summary}
use Rattle.summary.specs.Summary.{no_summary, summary_of}
use Rattle.shaping.specs.Limits.{CardsWithin}
use Rattle.shaping.specs.Shapes.{takes-by, shaped_passes}
use Rattle.making.specs.Made.{stack_by, words_by, Makes}
use Rattle.telling.specs.declared.Closed.{Closed}
use Rattle.telling.specs.LastHeld.{Last, view_last}
use Rattle.closing.specs.declared.Unclosed.{Unclosed}
use Rattle.closing.specs.Sizes.{area_after, within_after}

-- the number of the refusal, 0 for none
abbrev pub number_in : Result Closed Unclosed → ℕ
number_in (Ok c) = 0
number_in (Err u) = refusal_number u.refusal

-- what was held before is held, and nothing is told of the block
abbrev pub unclosed : Refusal → Stack → Unclosed
unclosed x s = record { refusal = x; told = record { held = s; kind = 0; area = 0; summary = no_summary } }

abbrev pub refused_as : Refusal → Stack → Result Closed Unclosed
refused_as x s = Err (unclosed x s)

abbrev pub closing_told : Stack → Result Closed Refusal → Result Closed Unclosed
closing_told s (Ok c) = Ok c
closing_told s (Err x) = refused_as x s

abbrev pub refused_block : ℕ → Stack → Result Closed Unclosed
refused_block n s = refused_as (named_by n) s

abbrev pub closed_block : Kind → Block → Stack → Held → Closed
closed_block k b s h = record { held = stack_by k b s; kind = kind_number k; area = h.area; summary = summary_of h.flow }

abbrev pub answer_by : (refusal : ℕ) → Kind → Block → Stack → Held → Result Closed Unclosed
answer_by zero k b s h = Ok (closed_block k b s h)
answer_by (suc n) k b s h = refused_block (suc n) s

abbrev pub words_after : (refusal : ℕ) → Kind → Time → Block → Stack → List ℕ → List ℕ
words_after zero k τ b s w = words_by k τ b s w
words_after (suc n) k τ b s w = w

-- what is held then, with its limits
pub record Keeps (τ : Time) (b : Block) (before : List Held) (next : Stack) (w : List ℕ) : Type 0 where
  pub some : 1 ≤ next.depth
  pub deep : next.depth ≤ 20
  pub held : view next τ.ordinates w ≡ held_after τ b before
  pub flows : Within (view next τ.ordinates w)
  pub areas : (total (view next τ.ordinates w)).area ≤ (total before).area + 999_999

-- A refusal leaves what was held before as it was: nothing else is answered.
pub record Closes (τ : Time) (b : Block) (s : Stack) (w : List ℕ) (r : Result Closed Unclosed) (w' : List ℕ) : Type 0 where
  pub number : number_in r ≡ closing_under τ b (view s τ.ordinates w)
  pub answer : r ≡ answer_by (closing_under τ b (view s τ.ordinates w)) (kind_of b) b s (held_for τ b (view s τ.ordinates w))
  pub words : w' ≡ words_after (shape_refusal τ b s.depth) (kind_of b) τ b s w
  pub keeps : IfOk r (λ c. Keeps τ b (view s τ.ordinates w) c.held w')

-- the refusal
pub closing_shape : (τ : Time) (b : Block) (held : List Held) (n : ℕ) → (n ≡ 0 → ⊥) → shape_refusal τ b (length held) ≡ n → closing_under τ b held ≡ n
closing_shape τ b held zero some e = absurd (some refl)
closing_shape τ b held (suc n) some e = rw e

pub closing_flow : (τ : Time) (b : Block) (held : List Held) → shape_refusal τ b (length held) ≡ 0 → closing_under τ b held ≡ flow_refusal τ b (taken_by b held)
closing_flow τ b held e = rw e

-- the answer
module _ (k : Kind) (b : Block) (s : Stack) (h : Held) where
  answer_some : (n : ℕ) → (n ≡ 0 → ⊥) → refused_block n s ≡ answer_by n k b s h
  answer_some zero some = absurd (some refl)
  answer_some (suc n) some = refl

  pub answer-refused : (x : Refusal) → refused_as x s ≡ answer_by (refusal_number x) k b s h
  answer-refused x = ap (λ (y : Refusal). refused_as y s) (sym (named_back x)) ∙ answer_some (refusal_number x) (some_number x)

  pub answer_none : (n : ℕ) {c : Closed} → Ok c ≡ answer_by n k b s h → 0 ≡ n → c ≡ closed_block k b s h
  answer_none zero e z = cc
  answer_none (suc n) e z = absurd (omega (arith, z))

unmade : (k : Kind) (τ : Time) (b : Block) (s : Stack) (w : List ℕ) (n : ℕ) → (n ≡ 0 → ⊥) → w ≡ words_after n k τ b s w
unmade k τ b s w zero some = absurd (some refl)
unmade k τ b s w (suc n) some = refl

-- HOW A BLOCK IS CLOSED
module _ (τ : Time) (b : Block) (s : Stack) (w : List ℕ) where
  abbrev before : List Held
  before = view s τ.ordinates w

  shape : shape_refusal τ b (length before) ≡ shape_refusal τ b s.depth
  shape = ap (shape_refusal τ b) (length_held τ.ordinates s.areas s.depth w)

  refused_by : (x : Refusal) {w' : List ℕ} → closing_under τ b before ≡ refusal_number x → w' ≡ words_after (shape_refusal τ b s.depth) (kind_of b) τ b s w → Closes τ b s w (refused_as x s) w'
  refused_by x e words =
      record {
        number = sym e;
        answer = answer-refused (kind_of b) b s (held_for τ b before) x ∙ ap (λ (m : ℕ). answer_by m (kind_of b) b s (held_for τ b before)) (sym e);
        words = words;
        keeps = tt;
      }

  pub closes_by_shape : (x : Refusal) → refusal_number x ≡ shape_refusal τ b s.depth → Closes τ b s w (refused_as x s) w
  closes_by_shape x is =
      refused_by x (closing_shape τ b before _ (some_number x) (shape ∙ sym is))
      (unmade (kind_of b) τ b s w _ (some_number x) ∙ ap (λ (m : ℕ). words_after m (kind_of b) τ b s w) is)

  -- it is made, and then its flows are looked at
  module _ (none : shape_refusal τ b s.depth ≡ 0) (next : Stack) (w' : List ℕ) (makes : Makes τ b s w next w') where
    sound : shape_refusal τ b (length before) ≡ 0
    sound = shape ∙ none

    words-made : w' ≡ words_after (shape_refusal τ b s.depth) (kind_of b) τ b s w
    words-made = makes.words ∙ ap (λ (m : ℕ). words_after m (kind_of b) τ b s w) (sym none)

    pub made_last : Last next τ.ordinates w' (held_for τ b before)
    made_last = view_last next τ.ordinates w' makes.held

    pub made_deep : next.depth ≤ 20
    made_deep =
        let room = (shaped_passes {k = kind_of b} τ b (length before) (record { is = refl; sound = sound })).room in
        omega
        (arith, room, takes-by b refl, length_held τ.ordinates next.areas next.depth w', ap length makes.held, length-drop (takes b) before)

    pub closes_by_rise : overtops τ b (taken_by b before) ≡ true → Closes τ b s w (refused_as refusal.Overtopped s) w'
    unfolding flow_refusal
    closes_by_rise rises =
        let twenty : closing_under τ b before ≡ 20 = closing_flow τ b before sound ∙ rw rises in
        refused_by refusal.Overtopped twenty words-made

    pub closes_by_flow : overtops τ b (taken_by b before) ≡ false → flow_limit < peak_of (held_for τ b before).flow → Closes τ b s w (refused_as refusal.FlowAboveLimit s) w'
    unfolding flow_refusal
    closes_by_flow stays high =
        let thirteen : closing_under τ b before ≡ 13 = closing_flow τ b before sound ∙ rw (stays, lt-ltb flow_limit (peak_of (held_for τ b before).flow) high) in
        refused_by refusal.FlowAboveLimit thirteen words-made

    pub closes_held : {kind area : ℕ} {summary : Summary} → overtops τ b (taken_by b before) ≡ false → CardsWithin b → Within before → kind ≡ kind_number (kind_of b) → area ≡ (held_for τ b before).area
        → summary ≡ summary_of (held_for τ b before).flow → peak_of (held_for τ b before).flow ≤ flow_limit
        → Closes τ b s w (Ok (record { held = next; kind = kind; area = area; summary = summary })) w'
    unfolding flow_refusal
    closes_held stays cards flows ek ea es low =
        let none : closing_under τ b before ≡ 0 = closing_flow τ b before sound ∙ rw (stays, le-ltb flow_limit (peak_of (held_for τ b before).flow) low) in
        record {
          number = sym none;
          answer = rw (makes.stack, ek, ea, es) (ap (λ (m : ℕ). answer_by m (kind_of b) b s (held_for τ b before)) (sym none));
          words = words-made;
          keeps =
              record {
                some = made_last.some;
                deep = made_deep;
                held = makes.held;
                flows = subst (λ (hs : List Held). Within hs) (sym makes.held) (within_after τ b before flows low);
                areas = omega (arith, ap (λ (hs : List Held). (total hs).area) makes.held, area_after τ b before cards sound);
              };
        }
