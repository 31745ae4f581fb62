-- The refusals in their order, each by what its own function says of the block.
use Prim.Native.Nat.{ℕ, ◌-◌}
use mathlib.Core.Path.{◌≡◌, ◌∙◌, ap}
use native.Mathlib.Omega.{arith}
use Rattle.std.specs.Prelude.{Some, None}
use Rattle.std.proofs.lemmas.Result.{err_from_is_err_and}
use Rattle.meaning.specs.Words.{◌<?◌, ◌≤?◌, met, first}
use Rattle.meaning.specs.Blocks as blocks
use Rattle.refusals.specs.declared.Refusal.TheVariants as refusal
use Rattle.blocks.specs.Meant.{time_is}
use Rattle.blocks.specs.Cards.{block_of}
use Rattle.kinds.specs.Kinds.{kind_meant}
use Rattle.shaping.specs.Shapes.{shape_kindless, shape_patternless, shape_without_room, shape_broken, shape_sound}
use Rattle.shaping.proofs.fit_block.Goals as goal

-- by how many are taken, what is said of the room
abbrev room_of : (held : ℕ) → ℕ → ℕ
room_of held taken = first (met (held <? taken) 10) (met (20 ≤? (held - taken)) 11)

pub returns-in_err-kind : goal.returns-in_err-kind
returns-in_err-kind c = λ name own.
    let x = c.args in
    let p = err_from_is_err_and c.from_residual.result c.from_residual.ensures.1 in
    let none : c.args.kind ≡ None = grind arith in
    let nine : c.in_err-kind.field-0.0 ≡ refusal.NoKind = grind arith in
    let is : kind_meant None ≡ blocks.kind_of (block_of name x.cards.now) = rw none at own in
    rw (p.1, p.2, nine, none) (shape_kindless (time_is x.time) (block_of name x.cards.now) x.held is)

pub returns-in_err-refuse_if : goal.returns-in_err-refuse_if
returns-in_err-refuse_if c = λ name own.
    let x = c.args in
    let p = err_from_is_err_and c.from_residual-in_err-refuse_if.result c.from_residual-in_err-refuse_if.ensures.1 in
    let kind : c.args.kind ≡ Some c.in_ok-kind.kind = grind arith in
    let is : kind_meant (Some c.in_ok-kind.kind) ≡ blocks.kind_of (block_of name x.cards.now) = rw kind at own in
    let eighteen = rw (c.is_patternless.ensures name) at c.in_err-refuse_if.ensures in
    rw (p.1, p.2, kind) (shape_patternless (time_is x.time) (block_of name x.cards.now) x.held c.in_ok-kind.kind is _ eighteen)

pub returns-in_err-after : goal.returns-in_err-after
returns-in_err-after c = λ name own.
    let x = c.args in
    let p = err_from_is_err_and c.from_residual-in_err-after.result c.from_residual-in_err-after.ensures.1 in
    let kind : c.args.kind ≡ Some c.in_ok-kind.kind = grind arith in
    let is : kind_meant (Some c.in_ok-kind.kind) ≡ blocks.kind_of (block_of name x.cards.now) = rw kind at own in
    let pattern = rw (c.is_patternless.ensures name) at c.in_ok-refuse_if.ensures in
    let room = c.in_err-after.ensures.number ∙ ap (room_of x.held) (c.taken_by.ensures name) in
    rw (p.1, p.2, kind) (shape_without_room (time_is x.time) (block_of name x.cards.now) x.held c.in_ok-kind.kind is pattern _ room)

pub returns-in_err-refuse_broken : goal.returns-in_err-refuse_broken
returns-in_err-refuse_broken c = λ name own.
    let x = c.args in
    let p = err_from_is_err_and c.from_residual-in_err-refuse_broken.result c.from_residual-in_err-refuse_broken.ensures.1 in
    let kind : c.args.kind ≡ Some c.in_ok-kind.kind = grind arith in
    let is : kind_meant (Some c.in_ok-kind.kind) ≡ blocks.kind_of (block_of name x.cards.now) = rw kind at own in
    let pattern = rw (c.is_patternless.ensures name) at c.in_ok-refuse_if.ensures in
    let room = c.in_ok-after.ensures.number ∙ ap (room_of x.held) (c.taken_by.ensures name) in
    rw (p.1, p.2, kind) (shape_broken (time_is x.time) (block_of name x.cards.now) x.held c.in_ok-kind.kind is pattern room _ (c.in_err-refuse_broken.ensures name))

pub returns : goal.returns
returns c = λ name own.
    let x = c.args in
    let kind : c.args.kind ≡ Some c.in_ok-kind.kind = grind arith in
    let is : kind_meant (Some c.in_ok-kind.kind) ≡ blocks.kind_of (block_of name x.cards.now) = rw kind at own in
    let pattern = rw (c.is_patternless.ensures name) at c.in_ok-refuse_if.ensures in
    let room = c.in_ok-after.ensures.number ∙ ap (room_of x.held) (c.taken_by.ensures name) in
    let after = rw (c.taken_by.ensures name) at c.in_ok-after.ensures.after in
    shape_sound (time_is x.time) (block_of name x.cards.now) x.held c.in_ok-kind.kind is pattern room _ after (c.in_ok-refuse_broken.ensures name)
