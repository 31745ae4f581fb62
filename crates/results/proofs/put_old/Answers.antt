-- The fields are written from the front: after each the front of the record has one field more.
use native.Mathlib.Omega.{arith}
use Rattle.results.specs.Record.{name-put, field_put, whole-put}
use Rattle.results.proofs.put_old.Goals as goal

pub put_at-requires-7 : goal.put_at-requires-7
put_at-requires-7 c =
    let c₆ = c in
    let c₅ = c₆ in
    let c₄ = c₅ in
    omega (arith, c₆.put_at-6.auto.r, c₅.put_at-5.auto.r, c₄.put_at-4.auto.r, c₄)

pub returns : goal.returns
returns c =
    let c₇ = c in
    let c₆ = c₇ in
    let c₅ = c₆ in
    let c₄ = c₅ in
    let c₃ = c₄ in
    let c₂ = c₃ in
    let c₁ = c₂ in
    let c₀ = c₁ in
    let s = c₀ in
    let x = s.args in
    let name = name-put x.name.now s.requires.1 (rw s.requires.0 at c₀.put_name.ensures) in
    let kind = field_put 6 1 x.kind (omega arith) name c₁.put_at.ensures in
    let zero = field_put 7 1 0 (omega arith) kind c₂.put_at-2.ensures in
    let area = field_put 8 4 x.area (omega arith) zero c₃.put_at-3.ensures in
    let peak = field_put 12 8 x.s.peak (omega arith) area c₄.put_at-4.ensures in
    let interval = field_put 20 2 x.s.interval (omega arith) peak c₅.put_at-5.ensures in
    let zeros = field_put 22 2 0 (omega arith) interval c₆.put_at-6.ensures in
    whole-put (field_put 24 8 x.s.sum (omega arith) zeros c₇.put_at-7.ensures)
