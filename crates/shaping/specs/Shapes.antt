-- Refusals 9, 18, 10, 11 and 12 or 19 of a block that closes.
--     refusal_by       by the tests and the numbers that they look at
--     ShapeIs         the shape of a block, with shape_refused, shape_kindless, shape_patternless, shape_without_room, shape_broken and shape_sound: how it comes about
--     shape_told       what is told of a block by what its refusals come to: of one that is refused its kind too, and that as many are held as before
--     Shaped          a block of a kind that none of them refuses, with what that says of how many are held, of a reach and of a pond
use Rattle.std.specs.Prelude.{ℕ, zero, suc, ◌+◌, ◌-◌, ◌≤◌, ◌<◌, ◌≡◌, refl, Bool, false, length, Option, Some, None, Result, Ok, Err}
use Rattle.std.proofs.Common.{sym, ap, ◌∙◌, arith, ltb-false, leb-false}
use Rattle.sequences.specs.Refusals.{neither_met, not_met}
use Rattle.meaning.specs.Words.{◌=?◌, ◌≤?◌, ◌<?◌, when◌then◌else◌, met, first}
use Rattle.meaning.specs.Water.{coef_a, coef_b, coef_c, unroutable}
use Rattle.meaning.specs.Pool.{table_breaks}
use Rattle.meaning.specs.Records.{RM, SV, SQ, table}
use Rattle.meaning.specs.Blocks as blocks
use Rattle.meaning.specs.Blocks.{Time, Block, NoKind, Reach, Pond, kind_number, kind_of, takes_by, takes, patternless, broken_by, broken, reach_steps, reach_k, reach_x, pond_volumes, pond_outflows}
use Rattle.meaning.specs.Run.{shape_refusal, depth_after}
use Rattle.limits.specs.Within.{TimeWithin}
use Rattle.kinds.specs.Kinds.{kind_meant, kind_must}
use Rattle.refusals.specs.declared.Refusal.{Refusal}
use Rattle.refusals.specs.declared.Refusal.TheVariants as refusal
use Rattle.refusals.specs.Numbers.{refusal_number, some_number}
use Rattle.kinds.specs.declared.Kind.{Kind}
use Rattle.kinds.specs.declared.Kind.TheVariants as kinds
use Rattle.routing.specs.Soundness as routing
use Rattle.pond.specs.Tables.{PondTable}
use Rattle.shaping.specs.Limits.{CardsWithin, reach_small}
use Rattle.shaping.specs.declared.Shape.{Shape}
use Rattle.shaping.specs.declared.Unfit.{Unfit}

abbrev pub refusal_by : (is_kindless is_patternless : Bool) (taken held breach : ℕ) → ℕ
refusal_by is_kindless is_patternless taken held breach =
    first (met is_kindless 9) (first (met is_patternless 18) (first (met (held <? taken) 10) (first (met (20 ≤? (held - taken)) 11) breach)))

-- by the kind alone
pub takes-by : (b : Block) {k : blocks.Kind} → kind_of b ≡ k → takes b ≡ takes_by k b
unfolding takes
takes-by b e = rw e

pub broken-by : (τ : Time) (b : Block) {k : blocks.Kind} → kind_of b ≡ k → broken τ b ≡ broken_by k τ b
unfolding broken
broken-by τ b e = rw e

shape_by : (τ : Time) (b : Block) (held : ℕ) {k : blocks.Kind} → kind_of b ≡ k
    → shape_refusal τ b held ≡ refusal_by (kind_number k =? 0) (patternless τ b) (takes_by k b) held (broken_by k τ b)
unfolding shape_refusal
shape_by τ b held e = rw (takes-by b e, broken-by τ b e, e)

-- what is told of a block: the number of its refusal, 0 for none; its kind; and how many are held then
abbrev pub number_in : Result Shape Unfit → ℕ
number_in (Ok s) = 0
number_in (Err u) = refusal_number u.refusal

abbrev pub kind_in : Result Shape Unfit → Option Kind
kind_in (Ok s) = Some s.kind
kind_in (Err u) = u.kind

abbrev pub after_in : Result Shape Unfit → ℕ
after_in (Ok s) = s.after
after_in (Err u) = u.after

abbrev pub shape_told : Option Kind → ℕ → Result Shape Refusal → Result Shape Unfit
shape_told kind held (Ok s) = Ok s
shape_told kind held (Err x) = Err (record { refusal = x; kind = kind; after = held })

-- THE SHAPE. A refusal leaves as many held as there were.
abbrev pub after_shape : (refusal : ℕ) → Block → ℕ → ℕ
after_shape zero b held = depth_after b held
after_shape (suc n) b held = held

pub record ShapeIs (τ : Time) (b : Block) (held : ℕ) (r : Result Shape Unfit) : Type 0 where
  pub number : number_in r ≡ shape_refusal τ b held
  pub kind : kind_meant (kind_in r) ≡ kind_of b
  pub after : after_in r ≡ after_shape (number_in r) b held

kept-after : (n : ℕ) (b : Block) (held : ℕ) → (n ≡ 0 → ⊥) → held ≡ after_shape n b held
kept-after zero b held some = absurd (some refl)
kept-after (suc n) b held some = refl

-- a block that is refused, of a kind or of none
pub shape_refused : (τ : Time) (b : Block) (held : ℕ) (kind : Option Kind) → kind_meant kind ≡ kind_of b → (x : Refusal) → refusal_number x ≡ shape_refusal τ b held
    → ShapeIs τ b held (Err (record { refusal = x; kind = kind; after = held }))
shape_refused τ b held kind e x h = record { number = h; kind = e; after = kept-after (refusal_number x) b held (some_number x) }

-- a block without a kind
pub shape_kindless : (τ : Time) (b : Block) (held : ℕ) → kind_meant None ≡ kind_of b → ShapeIs τ b held (Err (record { refusal = refusal.NoKind; kind = None; after = held }))
shape_kindless τ b held e = shape_refused τ b held None e refusal.NoKind (sym (shape_by τ b held (sym e)))

some_kind : (kind : Kind) → (kind_number (kind_meant (Some kind)) =? 0) ≡ false
some_kind kinds.Basin = refl
some_kind kinds.Inflow = refl
some_kind kinds.Confluence = refl
some_kind kinds.Reach = refl
some_kind kinds.Pond = refl

first_kept : (m n : ℕ) → (m ≡ 0 → ⊥) → m ≡ first m n
first_kept zero n some = absurd (some refl)
first_kept (suc m) n some = refl

first_of_three : (m n k : ℕ) → first m (first n k) ≡ first (first m n) k
first_of_three zero n k = refl
first_of_three (suc m) n k = refl

-- one of a kind: the refusals behind 9, by what was found of it
module _ (τ : Time) (b : Block) (held : ℕ) (kind : Kind) (e : kind_meant (Some kind) ≡ kind_of b) where
  abbrev taken : ℕ
  taken = takes_by (kind_meant (Some kind)) b

  abbrev broken_parts : ℕ
  broken_parts = broken_by (kind_meant (Some kind)) τ b

  abbrev no_room : ℕ
  no_room = first (met (held <? taken) 10) (met (20 ≤? (held - taken)) 11)

  chain : shape_refusal τ b held ≡ first (met (patternless τ b) 18) (first no_room broken_parts)
  chain =
      shape_by τ b held (sym e)
      ∙ rw (some_kind kind) (ap (first (met (patternless τ b) 18)) (first_of_three (met (held <? taken) 10) (met (20 ≤? (held - taken)) 11) broken_parts))

  -- refused, and told as one of the kind
  abbrev Refused : Refusal → Type 0
  Refused x = ShapeIs τ b held (Err (record { refusal = x; kind = Some kind; after = held }))

  pub shape_patternless : (x : Refusal) → refusal_number x ≡ met (patternless τ b) 18 → Refused x
  shape_patternless x h =
      shape_refused τ b held (Some kind) e x (h ∙ first_kept _ (first no_room broken_parts) (λ z. some_number x (h ∙ z)) ∙ sym chain)

  module _ (pattern : 0 ≡ met (patternless τ b) 18) where
    behind : shape_refusal τ b held ≡ first no_room broken_parts
    behind = chain ∙ ap (λ (n : ℕ). first n (first no_room broken_parts)) (sym pattern)

    pub shape_without_room : (x : Refusal) → refusal_number x ≡ no_room → Refused x
    shape_without_room x h = shape_refused τ b held (Some kind) e x (h ∙ first_kept no_room broken_parts (λ z. some_number x (h ∙ z)) ∙ sym behind)

    module _ (room : 0 ≡ no_room) where
      whole : shape_refusal τ b held ≡ broken_parts
      whole = behind ∙ ap (λ (n : ℕ). first n broken_parts) (sym room)

      pub shape_broken : (x : Refusal) → refusal_number x ≡ broken_parts → Refused x
      shape_broken x h = shape_refused τ b held (Some kind) e x (h ∙ sym whole)

      pub shape_sound : (after : ℕ) → after ≡ held - taken + 1 → 0 ≡ broken_parts → ShapeIs τ b held (Ok (record { kind = kind; after = after }))
      shape_sound after a h = record { number = h ∙ sym whole; kind = e; after = a ∙ ap (λ (n : ℕ). held - n + 1) (sym (takes-by b (sym e))) }

-- NOT REFUSED
pub record Passes (taken held breach : ℕ) : Type 0 where
  pub enough : taken ≤ held
  pub room : held - taken < 20
  pub whole : breach ≡ 0

pub passes : (is_kindless is_patternless : Bool) (taken held breach : ℕ) → refusal_by is_kindless is_patternless taken held breach ≡ 0 → Passes taken held breach
passes is_kindless is_patternless taken held breach e =
    let f = neither_met (met is_patternless 18) _ (neither_met (met is_kindless 9) _ e).1 in
    let g = neither_met (met (held <? taken) 10) _ f.1 in
    let h = neither_met (met (20 ≤? (held - taken)) 11) _ g.1 in
    record {
      enough = ltb-false held taken (not_met (held <? taken) 9 g.0);
      room = leb-false 20 (held - taken) (not_met (20 ≤? (held - taken)) 10 h.0);
      whole = h.1;
    }

pub record Shaped (k : blocks.Kind) (τ : Time) (b : Block) (held : ℕ) : Type 0 where
  pub is : kind_of b ≡ k
  pub sound : shape_refusal τ b held ≡ 0

module _ {k : blocks.Kind} (τ : Time) (b : Block) (held : ℕ) (s : Shaped k τ b held) where
  pub shaped_passes : Passes (takes_by k b) held (broken_by k τ b)
  shaped_passes = passes (kind_number k =? 0) (patternless τ b) (takes_by k b) held (broken_by k τ b) (sym (shape_by τ b held s.is) ∙ s.sound)

-- a block without a kind is refused
pub none_refused : (τ : Time) (b : Block) (held : ℕ) → Shaped NoKind τ b held → ⊥
none_refused τ b held s = let e : ◌≡◌ {A = ℕ} 9 0 = sym (shape_by τ b held s.is) ∙ s.sound in omega arith

-- a reach that 12 does not refuse
pub reach_shaped : (τ : Time) (b : Block) (held : ℕ) → Shaped Reach τ b held → TimeWithin τ → CardsWithin b → length b.cards ≡ length table
    → routing.Reach (reach_steps b) τ.minutes (reach_k b) (reach_x b)
unfolding when◌then◌else◌
reach_shaped τ b held s time cards long =
    let given = kind_must b Reach RM refl (λ e. omega arith) (omega arith) s.is in
    let small = reach_small τ b time cards in
    let A = coef_a (reach_steps b) τ.minutes in
    let B = coef_b (reach_k b) (reach_x b) in
    let C = coef_c (reach_k b) (reach_x b) in
    let order = routing.routable A B C (not_met (unroutable A B C) 11 (shaped_passes τ b held s).whole) in
    record {
      steps = (cards RM).low given 0 (omega arith);
      steps_up = small.steps;
      minutes = time.some-minutes;
      minutes_up = small.minutes;
      travel = (cards RM).low given 1 (omega arith);
      travel_up = small.travel;
      weight = small.weight;
      low = order.0;
      high = order.1;
    }

-- a pond that 19 does not refuse
pub pond_shaped : (τ : Time) (b : Block) (held : ℕ) → Shaped Pond τ b held → TimeWithin τ → CardsWithin b → length (pond_volumes b) ≤ 20
    → PondTable τ.minutes (pond_volumes b) (pond_outflows b)
pond_shaped τ b held s time cards few =
    record {
      minutes = time.few-minutes;
      volumes_up = (cards SV).high;
      outflows_up = (cards SQ).high;
      few = few;
      whole = not_met (table_breaks τ.minutes (pond_volumes b) (pond_outflows b)) 18 (shaped_passes τ b held s).whole;
    }
