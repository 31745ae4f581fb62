-- The two bytes are one of the first five identifiers, or what is looked up behind them.
use Rattle.std.proofs.Common.{rules, arith, ◌≡◌, ◌∙◌, ◌<◌, refl, sym, ap, get_or}
use Rattle.meaning.specs.Words.{when◌then◌else◌}
use Rattle.identifiers.specs.Heads.{behind, by_key, unread}
use Rattle.identifiers.specs.Keys.{at_key, behind_five}
use Rattle.identifiers.specs.Controls.{short_unread}
use Rattle.identifiers.proofs.head_of.Goals.{in_default-via-in-73+in_default-1, in_default-via-in-74+in_default-1, in_default-via-in-75+in_default-1, in_default-via-in_default-1}
use Rattle.identifiers.proofs.head_of.Goals as goal

pub returns-then-l-lt2 : goal.returns-then-l-lt2
returns-then-l-lt2 c = (c.read_control.ensures.0 ∙ short_unread c.args.l.now c.if-l-lt2.true, c.read_control.ensures.1)

pub returns-in-73-eq68 : goal.returns-in-73-eq68
unfolding by_key when◌then◌else◌
returns-in-73-eq68 c = (at_key c.args.l.now c.if-l-lt2.false (omega (arith, c.type_inv.l 1)) 73 68 c.in-73-eq68.is-0 c.in-73-eq68.is-1, tt)

pub returns-in-73-eq84 : goal.returns-in-73-eq84
unfolding by_key when◌then◌else◌
returns-in-73-eq84 c = (at_key c.args.l.now c.if-l-lt2.false (omega (arith, c.type_inv.l 1)) 73 84 c.in-73-eq84.is-0 c.in-73-eq84.is-1, tt)

pub returns-in-74-eq82 : goal.returns-in-74-eq82
unfolding by_key when◌then◌else◌
returns-in-74-eq82 c = (at_key c.args.l.now c.if-l-lt2.false (omega (arith, c.type_inv.l 1)) 74 82 c.in-74-eq82.is-0 c.in-74-eq82.is-1, tt)

pub returns-in-75-eq75 : goal.returns-in-75-eq75
unfolding by_key when◌then◌else◌
returns-in-75-eq75 c = (at_key c.args.l.now c.if-l-lt2.false (omega (arith, c.type_inv.l 1)) 75 75 c.in-75-eq75.is-0 c.in-75-eq75.is-1, tt)

pub returns-in-75-eq77 : goal.returns-in-75-eq77
unfolding by_key when◌then◌else◌
returns-in-75-eq77 c = (at_key c.args.l.now c.if-l-lt2.false (omega (arith, c.type_inv.l 1)) 75 77 c.in-75-eq77.is-0 c.in-75-eq77.is-1, tt)

pub returns-in_default : goal.returns-in_default
returns-in_default c =
    let l = c.args.l.now in
    let small : get_or l 1 0 < 256 = omega (arith, c.type_inv.l 1) in
    let key = c.key_of.result in
    let five : behind key (unread l) ≡ by_key key (unread l) = rw c.key_of.ensures (elim c.in_default-1.branch [
      | in_default-via-in-73+in_default-1 w ↦ behind_five _ _ (λ g. omega arith) (λ g. omega arith) (λ g. omega arith) (λ g. omega arith) (λ g. omega arith)
      | in_default-via-in-74+in_default-1 w ↦ behind_five _ _ (λ g. omega arith) (λ g. omega arith) (λ g. omega arith) (λ g. omega arith) (λ g. omega arith)
      | in_default-via-in-75+in_default-1 w ↦ behind_five _ _ (λ g. omega arith) (λ g. omega arith) (λ g. omega arith) (λ g. omega arith) (λ g. omega arith)
      | in_default-via-in_default-1 w ↦ behind_five _ _ (λ g. omega arith) (λ g. omega arith) (λ g. omega arith) (λ g. omega arith) (λ g. omega arith)
    ]) in
    (c.head_by.ensures.0 ∙ five ∙ ap (λ w. by_key w (unread l)) c.key_of.ensures ∙ at_key l c.if-l-lt2.false small _ _ refl refl, c.head_by.ensures.1)
