-- The kind by the number of the records that are there: at each key it computes, and at no other is there a set.
use Prim.Native.Nat.{ℕ}
use mathlib.Core.Path.{◌≡◌, refl, sym, ◌∙◌, ap}
use mathlib.Core.List.{List}
use Rattle.meaning.specs.Words.{when◌then◌else◌}
use Rattle.meaning.specs.Blocks.{sets, kind_of}
use Rattle.blocks.specs.Cards.{block_of}
use Rattle.kinds.specs.Masks.{mask_of}
use Rattle.kinds.specs.Kinds.{kind_at, kind_by_mask, kind_by_none}
use Rattle.kinds.proofs.kind_of.Goals as goal

by_key : {mask : ℕ} (w : List ℕ) → ((name : List ℕ) → mask ≡ mask_of (block_of name w).cards) → (k : ℕ) → mask ≡ k → (name : List ℕ) → kind_at sets k ≡ kind_of (block_of name w)
by_key w is k e name = ap (kind_at sets) (sym e ∙ is name) ∙ sym (kind_by_mask name w)

pub returns-in-15 : goal.returns-in-15
unfolding when◌then◌else◌
returns-in-15 c = by_key c.args.cards.now c.mask_of.ensures 15 c.in-15.is

pub returns-in-143 : goal.returns-in-143
unfolding when◌then◌else◌
returns-in-143 c = by_key c.args.cards.now c.mask_of.ensures 143 c.in-143.is

pub returns-in-16 : goal.returns-in-16
unfolding when◌then◌else◌
returns-in-16 c = by_key c.args.cards.now c.mask_of.ensures 16 c.in-16.is

pub returns-in-17 : goal.returns-in-17
unfolding when◌then◌else◌
returns-in-17 c = by_key c.args.cards.now c.mask_of.ensures 17 c.in-17.is

pub returns-in-32 : goal.returns-in-32
unfolding when◌then◌else◌
returns-in-32 c = by_key c.args.cards.now c.mask_of.ensures 32 c.in-32.is

pub returns-in-64 : goal.returns-in-64
unfolding when◌then◌else◌
returns-in-64 c = by_key c.args.cards.now c.mask_of.ensures 64 c.in-64.is

pub returns-in-1792 : goal.returns-in-1792
unfolding when◌then◌else◌
returns-in-1792 c = by_key c.args.cards.now c.mask_of.ensures 1792 c.in-1792.is

pub returns-in_default : goal.returns-in_default
unfolding when◌then◌else◌
returns-in_default c = λ name. kind_by_none c.mask_of.result c.in_default.in_default-own.rest ∙ by_key c.args.cards.now c.mask_of.ensures _ refl name
