-- The loop keeps the word that the bytes left come to; so many bytes are below that power of 256, and there are eight at most.
use Prim.Native.Nat.{ℕ, suc, ◌+◌, ◌^◌}
use mathlib.Core.Path.{◌≡◌, refl, ap, ◌∙◌}
use native.Mathlib.Numerals.{add-one}
use native.Mathlib.Omega.{arith}
use lib.ListN.{get_or}
use Rattle.slices.specs.Bytes.{few_bytes, byte_more}
use Rattle.rules.specs.Words.{spelled_more, spelled-blank, spelled-end, too_long, fits}
use Rattle.rules.proofs.words.read_word.Goals as goal

pub returns-then-most-f : goal.returns-then-most-f
returns-then-most-f c = too_long c.args.most c.args.f.now c.if-most-f.true

pub loop-b-init : goal.loop-b-init
loop-b-init c = (c.if-most-f.false, omega arith, refl)

pub returns-then-b-eq32 : goal.returns-then-b-eq32
returns-then-b-eq32 c =
    let l = c.loop-b in
    let x = c.args in
    spelled-blank x.f.now l.b-index l.word (omega arith) c.if-b-eq32.true ∙ l.invariant.2 ∙ fits x.most x.f.now l.invariant.0

pub overflow_mul-word : goal.overflow_mul-word
overflow_mul-word c =
    let l = c.loop-b in
    omega (arith, few_bytes l.b-index l.word l.invariant.1 (omega (arith, c.requires, l.invariant.0)))

pub overflow_add-word : goal.overflow_add-word
overflow_add-word c =
    let l = c.loop-b in
    omega (arith, c.type_inv.f l.b-index, few_bytes l.b-index l.word l.invariant.1 (omega (arith, c.requires, l.invariant.0)))

pub loop-b-preserved : goal.loop-b-preserved
loop-b-preserved c =
    let l = c.loop-b in
    let s = c.args.f.now in
    let more = byte_more l.b-index l.word (get_or s l.b-index 0) l.invariant.1 (omega (arith, c.type_inv.f l.b-index)) in
    let e : 256 ^ (l.b-index + 1) ≡ 256 ^ suc l.b-index = ap (λ (n : ℕ). 256 ^ n) (add-one l.b-index) in
    (l.invariant.0, omega arith, spelled_more s l.b-index l.word (omega arith) _ refl c.if-b-eq32.false ∙ l.invariant.2)

pub returns : goal.returns
returns c =
    let l = c.loop-b in
    let x = c.args in
    spelled-end x.f.now l.b-index l.word (omega arith) ∙ l.invariant.2 ∙ fits x.most x.f.now l.invariant.0
