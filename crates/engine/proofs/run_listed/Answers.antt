-- Each way out is a way through the meaning of a run: refused for the sizes, refused at a line, or settled.
use Rattle.std.proofs.Common.{◌≡◌, length, sym, ap, ◌∙◌}
use Rattle.refusals.specs.Numbers.{refusal_number, refusal_in}
use Rattle.turns.specs.Turns.{some_refused}
use Rattle.blocks.specs.Meant.{ratios_is}
use Rattle.answers.specs.Answers.{lent_as, size_refusal}
use Rattle.engine.specs.Outcomes.{refused-size, stopped, listed_small, listed_stopped}
use Rattle.engine.specs.Walked.{refused_as, settled-as, listed_as}
use Rattle.engine.proofs.run_listed.Goals as goal

pub returns-in-Err-clause-records_after : goal.returns-in-Err-clause-records_after
returns-in-Err-clause-records_after c =
    let x = c.args in
    let is : refusal_number c.in-Err.refusal ≡ size_refusal (length x.work.now) (length x.deck.now) = sym (ap refusal_in c.in-Err.is) ∙ c.size_refusal.ensures in
    rw (c.at_line.ensures.0, c.at_line.ensures.1) at c.refuse.ensures.records_after
    ∙ rw is (refused-size x.deck.now x.named x.ratio (lent_as x.work.now x.ordinates.now x.records.now) (λ z. some_refused c.in-Err.refusal (is ∙ z)))

pub returns-in-Err-clause-listed : goal.returns-in-Err-clause-listed
returns-in-Err-clause-listed c =
    let x = c.args in
    let is : refusal_number c.in-Err.refusal ≡ size_refusal (length x.work.now) (length x.deck.now) = sym (ap refusal_in c.in-Err.is) ∙ c.size_refusal.ensures in
    (c.refuse.ensures.none.0 ∙ listed_small x.deck.now (length x.work.now) (λ z. some_refused c.in-Err.refusal (is ∙ z)), c.refuse.ensures.none.1)

pub returns-in-Ok-clause-records_after : goal.returns-in-Ok-clause-records_after
returns-in-Ok-clause-records_after c =
    let x = c.args in
    let w = c.walk_every-walked in
    let sized : size_refusal (length x.work.now) (length x.deck.now) ≡ 0 = sym c.size_refusal.ensures ∙ ap refusal_in c.in_default.is in
    let d = rw (c.zero_words.auto.s, c.fill_bytes.auto.s, c.in-Ok.is) at w.ensures.every in
    c.settle-answer.ensures
    ∙ rw c.count_of.ensures
    (settled-as x.deck.now x.named x.ratio x.work.now x.ordinates.now x.records.now w.new.work w.new.ordinates w.new.records
    w.auto.work (w.auto.ordinates ∙ c.zero_words.auto.s) (w.auto.records ∙ c.fill_bytes.auto.s) (ratios_is w.result.ratios) c.in-Ok.worked.nq c.in-Ok.worked.blocks sized d)

pub returns-in-Ok-clause-listed : goal.returns-in-Ok-clause-listed
returns-in-Ok-clause-listed c =
    let x = c.args in
    let w = c.walk_every-walked in
    let sized : size_refusal (length x.work.now) (length x.deck.now) ≡ 0 = sym c.size_refusal.ensures ∙ ap refusal_in c.in_default.is in
    let d = rw (c.zero_words.auto.s, c.fill_bytes.auto.s, c.in-Ok.is) at w.ensures.every in (
      listed_as x.deck.now x.named x.ratio x.work.now x.ordinates.now x.records.now w.new.work w.new.ordinates w.new.records
          w.auto.work (w.auto.ordinates ∙ c.zero_words.auto.s) (w.auto.records ∙ c.fill_bytes.auto.s) (ratios_is w.result.ratios) c.in-Ok.worked.nq c.in-Ok.worked.blocks sized d,
      w.ensures.few-ratios,
    )

pub returns-in-Err-worked-clause-records_after : goal.returns-in-Err-worked-clause-records_after
returns-in-Err-worked-clause-records_after c =
    let x = c.args in
    let w = c.walk_every-walked in
    let r = c.in-Err-worked.reason in
    let sized : size_refusal (length x.work.now) (length x.deck.now) ≡ 0 = sym c.size_refusal.ensures ∙ ap refusal_in c.in_default.is in
    let stop = rw c.in-Err-worked.is at w.ensures.every in
    refused_as x.deck.now x.named x.ratio x.work.now x.ordinates.now x.records.now w.new.work w.new.ordinates w.new.records
    w.auto.work (w.auto.ordinates ∙ c.zero_words.auto.s) (w.auto.records ∙ c.fill_bytes.auto.s) _ r.number r.line c.refuse-in-Err-worked.ensures.records_after
    (stopped x.deck.now x.named x.ratio (lent_as x.work.now x.ordinates.now x.records.now) sized r.number r.line stop)

pub returns-in-Err-worked-clause-listed : goal.returns-in-Err-worked-clause-listed
returns-in-Err-worked-clause-listed c =
    let x = c.args in
    let r = c.in-Err-worked.reason in
    let sized : size_refusal (length x.work.now) (length x.deck.now) ≡ 0 = sym c.size_refusal.ensures ∙ ap refusal_in c.in_default.is in
    let stop = rw c.in-Err-worked.is at c.walk_every-walked.ensures.every in
    let none = c.refuse-in-Err-worked.ensures.none in
    (none.0 ∙ listed_stopped x.deck.now (length x.work.now) r.number r.line sized stop, none.1)
